-- What stands here is opened as what it is: a rule's record, the end's, and the atoms of a lawful rule. Assumes nothing.
use Rattle.std.proofs.Common.{◌≡◌, ℕ, ◌+◌, ◌*◌, ◌%◌, Bool, true, false, cond, ◌&&◌, eqb, leb, List, length, Some, None, Ok, Option, sym, ap, ◌∙◌, arith}
use Rattle.std.proofs.lemmas.Bool.{eqb-true, le-leb, eq-eqb, and_from, cond-true}
use Rattle.refusal.specs.declared.Reason.TheVariants.{Cut, Kind, Length, Atom, Order, BothParts, RuleCount, Trailing}
use Rattle.records.specs.Words.{header_of, word_at}
use Rattle.refusal.specs.Results.{err_not_ok, passed}
use Rattle.records.specs.declared.Header.{Header}
use Rattle.rules.specs.Program.{Rule, LawfulRule, within, ascending, disjoint}
use Rattle.rules.specs.Tests.{all}
use Rattle.program.specs.Reading.{rule_record, refuse, rule_length, by_count, opened_rule, by_header, opened, known, atoms_fault, ended}
use Rattle.program.specs.Here.{RuleHere, end_not_rule}

-- A RULE'S RECORD

pub opened_from_rule : (rest : List ℕ) (place size k : ℕ) → RuleHere rest size k → opened rest place ≡ Ok (Some (rule_record size k))
opened_from_rule rest place size k here =
    let fits : rule_length size ≡ true = and_from (leb 4 size) (leb size 514 && eqb (size % 2) 0) (le-leb 4 size (omega (arith, here.counted)))
    (and_from (leb size 514) (eqb (size % 2) 0) (le-leb size 514 here.short) (eq-eqb (size % 2) 0 here.even)) in
    ap (by_header rest place) here.header
    ∙ cond-true (rule_length size) (cond (leb (4 + size) (length rest)) (by_count place size (word_at rest 6)) (refuse Cut place)) (refuse Length place) fits
    ∙ cond-true (leb (4 + size) (length rest)) (by_count place size (word_at rest 6)) (refuse Cut place) (le-leb (4 + size) (length rest) here.whole)
    ∙ ap (by_count place size) here.count_word
    ∙ cond-true (leb (2 * k + 4) size) (Ok (Some (rule_record size k))) (refuse Length place) (le-leb (2 * k + 4) size here.counted)

-- THE END'S RECORD

module _ (rest : List ℕ) (place : ℕ) where
  pub opened_from_end : header_of rest ≡ Some (record { length = 0; kind = 3 }) → opened rest place ≡ Ok None
  opened_from_end is = ap (by_header rest place) is

  count_not_end : (size : ℕ) (o : Option ℕ) → by_count place size o ≡ Ok None → ⊥
  count_not_end size None is = err_not_ok is
  count_not_end size (Some k) is = end_not_rule size k (sym (passed (leb (2 * k + 4) size) err_not_ok is).1)

  rule_not_end : (size : ℕ) → opened_rule rest place size ≡ Ok None → ⊥
  rule_not_end size is =
      let fit = passed (rule_length size) err_not_ok is in
      let whole = passed (leb (4 + size) (length rest)) err_not_ok fit.1 in
      count_not_end size (word_at rest 6) whole.1

  end_by_kind : (h : Header) (b : Bool) → cond b (opened_rule rest place h.length) (cond (eqb h.kind 3) (cond (eqb h.length 0) (Ok None) (refuse Length place)) (refuse Kind place)) ≡ Ok None
      → Some h ≡ Some (record { length = 0; kind = 3 })
  end_by_kind h true is = absurd (rule_not_end h.length is)
  end_by_kind h false is =
      let kind = passed (eqb h.kind 3) err_not_ok is in
      let size = passed (eqb h.length 0) err_not_ok kind.1 in
      ap (λ n. Some (record { length = n; kind = h.kind })) (eqb-true h.length 0 size.0) ∙ ap (λ n. Some (record { length = 0; kind = n })) (eqb-true h.kind 3 kind.0)

  end_by_header : (o : Option Header) → by_header rest place o ≡ Ok None → o ≡ Some (record { length = 0; kind = 3 })
  end_by_header None is = absurd (err_not_ok is)
  end_by_header (Some h) is = end_by_kind h (eqb h.kind 2) is

  pub end_here : opened rest place ≡ Ok None → header_of rest ≡ Some (record { length = 0; kind = 3 })
  end_here = end_by_header (header_of rest)

  module _ (count stated : ℕ) where
    pub ended_from : count ≡ stated → length rest ≡ 4 → ended rest place count stated ≡ Ok tt
    ended_from all last =
        cond-true (eqb count stated) (cond (eqb (length rest) 4) (Ok tt) (refuse Trailing (place + 4))) (refuse RuleCount place) (eq-eqb count stated all)
        ∙ cond-true (eqb (length rest) 4) (Ok tt) (refuse Trailing (place + 4)) (eq-eqb (length rest) 4 last)

    pub ended_so : ended rest place count stated ≡ Ok tt → (count ≡ stated) × (length rest ≡ 4)
    ended_so is =
        let first = passed (eqb count stated) err_not_ok is in
        let second = passed (eqb (length rest) 4) err_not_ok first.1 in
        (eqb-true count stated first.0, eqb-true (length rest) 4 second.0)

-- THE ATOMS OF A RULE

pub lawful_no_fault : (n : ℕ) (r : Rule) → LawfulRule n r → atoms_fault n r ≡ None
lawful_no_fault n r law =
    let atoms : known n r ≡ true = and_from (leb r.head n) (all (within n) r.positive && all (within n) r.negative) (le-leb r.head n law.head_known)
    (and_from (all (within n) r.positive) (all (within n) r.negative) law.positive_known law.negative_known) in
    let order = and_from (ascending r.positive) (ascending r.negative) law.positive_ascends law.negative_ascends in
    cond-true (known n r) (cond (ascending r.positive && ascending r.negative) (cond (disjoint r.positive r.negative) None (Some BothParts)) (Some Order)) (Some Atom) atoms
    ∙ cond-true (ascending r.positive && ascending r.negative) (cond (disjoint r.positive r.negative) None (Some BothParts)) (Some Order) order
    ∙ cond-true (disjoint r.positive r.negative) None (Some BothParts) law.parts_disjoint
