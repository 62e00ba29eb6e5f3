-- One turn of reading the records: what is left gives the answer. Assumes nothing.
use Rattle.std.proofs.Common.{◌≡◌, ℕ, zero, suc, ◌+◌, ◌-◌, ◌<◌, ◌≤◌, List, [], ◌∷◌, length, drop, set, Some, None, Ok, Err, Option, Result, sym, refl, ap, ◌∙◌, add-zero, arith}
use Rattle.std.proofs.lemmas.List.{length-set}
use Rattle.refusal.specs.declared.Reason.{Reason}
use Rattle.refusal.specs.declared.Reason.TheVariants.{Limit}
use Rattle.refusal.specs.declared.Refusal.{Refusal}
use Rattle.refusal.specs.Results.{err_not_ok}
use Rattle.rules.specs.Program.{Rule}
use Rattle.program.specs.Reading.{rule_record, refusal_at, refuse, opened, rule_of, atoms_fault, checked, ended, after_end, after_rule, by_fault, last_record, next_record, rules_from}
use Rattle.program.specs.Index.{rule_size, with_starts, indexed_from}
use Rattle.program.specs.Here.{rule_here, size_of_rule}
use Rattle.program.specs.declared.reader.Index.{Index}
use Rattle.program.specs.declared.reader.RuleRecord.{RuleRecord}

module _ (n stated count : ℕ) (rest : List ℕ) (place : ℕ) where
  more : ℕ → ℕ → Result (List Rule) Refusal
  more room size = rules_from room n stated (count + 1) (drop (4 + size) rest) (place + (4 + size))

  pub rules_refused : (room : ℕ) (e : Refusal) → opened rest place ≡ Err e → rules_from room n stated count rest place ≡ Err e
  unfolding rules_from more
  rules_refused zero e is = ap (last_record stated rest place count) is
  rules_refused (suc room) e is = ap (next_record n stated rest place count (more room)) is

  pub rules_end : (room : ℕ) → opened rest place ≡ Ok None → rules_from room n stated count rest place ≡ after_end (ended rest place count stated)
  unfolding rules_from more
  rules_end zero is = ap (last_record stated rest place count) is
  rules_end (suc room) is = ap (next_record n stated rest place count (more room)) is

  module _ (size k : ℕ) (is : opened rest place ≡ Ok (Some (rule_record size k))) where
    pub rules_full : rules_from 0 n stated count rest place ≡ refuse Limit place
    unfolding rules_from
    rules_full = ap (last_record stated rest place count) is

    pub rules_step : (room : ℕ) → rules_from (suc room) n stated count rest place
        ≡ by_fault place (rule_of rest size k) (rules_from room n stated (count + 1) (drop (4 + size) rest) (place + (4 + size))) (atoms_fault n (rule_of rest size k))
    unfolding rules_from more
    rules_step room = ap (next_record n stated rest place count (more room)) is

-- what a checked rule gives

fault_refused : (place : ℕ) (r : Rule) (more : Result (List Rule) Refusal) (e : Refusal) (o : Option Reason) → Err e ≡ checked place o → by_fault place r more o ≡ Err e
fault_refused place r more e None is = absurd (err_not_ok is)
fault_refused place r more e (Some why) is = let same : refusal_at why place ≡ e = cc in ap Err same

fault_passed : (place : ℕ) (r : Rule) (more : Result (List Rule) Refusal) (u : Unit {0}) (o : Option Reason) → Ok u ≡ checked place o → by_fault place r more o ≡ after_rule r more
fault_passed place r more u None is = refl
fault_passed place r more u (Some why) is = absurd (err_not_ok (sym is))

-- the index, with one more rule
indexed_more : (n : ℕ) (starts : List ℕ) (count place : ℕ) (r : Rule) (rules : Result (List Rule) Refusal)
    → indexed_from n starts count place (after_rule r rules) ≡ indexed_from n (set starts count place) (count + 1) (place + rule_size r) rules
indexed_more n starts count place r (Err e) = refl
indexed_more n starts count place r (Ok rs) =
    let same : count + length (r ∷ rs) ≡ (count + 1) + length rs = omega arith in
    ap (λ m. Ok (record { atoms = n; count = m; starts = with_starts (set starts count place) (count + 1) (place + rule_size r) rs })) same

-- the rules that were read stand in the table, and those that `rest` holds give the answer
pub record SoFar (n stated : ℕ) (starts : List ℕ) (count : ℕ) (rest : List ℕ) (place : ℕ) (answer : Result Index Refusal) : Type 0 where
  pub few : count ≤ 8000
  pub long : length starts ≡ 8000
  pub gives : indexed_from n starts count place (rules_from (8000 - count) n stated count rest place) ≡ answer

module _ {n stated : ℕ} {starts : List ℕ} {count : ℕ} {rest : List ℕ} {place : ℕ} {answer : Result Index Refusal} (so_far : SoFar n stated starts count rest place answer) where
  given_answer : (x : Result (List Rule) Refusal) → rules_from (8000 - count) n stated count rest place ≡ x → indexed_from n starts count place x ≡ answer
  given_answer x is = ap (indexed_from n starts count place) (sym is) ∙ so_far.gives

  pub turn_refused : (e : Refusal) → Err e ≡ opened rest place → Err e ≡ answer
  turn_refused e is = given_answer (Err e) (rules_refused n stated count rest place (8000 - count) e (sym is))

  pub turn_end_refused : (e : Refusal) → Ok None ≡ opened rest place → Err e ≡ ended rest place count stated → Err e ≡ answer
  turn_end_refused e is bad = given_answer (Err e) (rules_end n stated count rest place (8000 - count) (sym is) ∙ ap after_end (sym bad))

  pub turn_end : (u : Unit {0}) → Ok None ≡ opened rest place → Ok u ≡ ended rest place count stated → Ok (record { atoms = n; count = count; starts = starts }) ≡ answer
  turn_end u is good =
      ap (λ m. Ok (record { atoms = n; count = m; starts = starts })) (sym (add-zero count))
      ∙ given_answer (Ok []) (rules_end n stated count rest place (8000 - count) (sym is) ∙ ap after_end (sym good))

  module _ (r : RuleRecord) (is : Ok (Some r) ≡ opened rest place) where
    abbrev pub rule : Rule
    rule = rule_of rest r.size r.positive

    pub turn_full : 8000 ≤ count → Err (refusal_at Limit place) ≡ answer
    turn_full full =
        let none : 8000 - count ≡ 0 = omega arith in
        given_answer (refuse Limit place) (ap (λ m. rules_from m n stated count rest place) none ∙ rules_full n stated count rest place r.size r.positive (sym is))

    module _ (room : count < 8000) where
      stepped : rules_from (8000 - count) n stated count rest place
          ≡ by_fault place rule (rules_from (8000 - (count + 1)) n stated (count + 1) (drop (4 + r.size) rest) (place + (4 + r.size))) (atoms_fault n rule)
      stepped =
          let one : 8000 - count ≡ suc (8000 - (count + 1)) = omega arith in
          ap (λ m. rules_from m n stated count rest place) one ∙ rules_step n stated count rest place r.size r.positive (sym is) (8000 - (count + 1))

      pub turn_fault : (e : Refusal) → Err e ≡ checked place (atoms_fault n rule) → Err e ≡ answer
      turn_fault e bad = given_answer (Err e) (stepped ∙ fault_refused place rule _ e (atoms_fault n rule) bad)

      pub turn_rule : (u : Unit {0}) → Ok u ≡ checked place (atoms_fault n rule) → SoFar n stated (set starts count place) (count + 1) (drop (4 + r.size) rest) (place + (4 + r.size)) answer
      turn_rule u good =
          let later = rules_from (8000 - (count + 1)) n stated (count + 1) (drop (4 + r.size) rest) (place + (4 + r.size)) in
          record {
            few = omega arith;
            long = simp length-set so_far.long;
            gives = ap (λ s. indexed_from n (set starts count place) (count + 1) (place + s) later) (sym (size_of_rule rest r.size r.positive (rule_here rest place r.size r.positive (sym is))))
                ∙ sym (indexed_more n starts count place rule later)
                ∙ given_answer (after_rule rule later) (stepped ∙ fault_passed place rule _ u (atoms_fault n rule) good);
          }
