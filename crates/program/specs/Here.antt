-- Proofs: what is known where a rule record stands. Assumes nothing.
use Rattle.std.specs.Prelude.{◌≡◌, ℕ, ◌+◌, ◌-◌, ◌*◌, ◌/◌, ◌%◌, ◌≤◌, Bool, true, false, cond, ◌&&◌, List, length, Some, None, Ok, Option, Result, ◌==◌, ◌≢◌, nat_le, refl}
use Rattle.std.proofs.Common.{sym, ap, subst, ◌∙◌, arith, length-take, length-drop}
use Rattle.std.specs.List.{between}
use Rattle.std.proofs.lemmas.Bool.{leb-true, eqb-true, and_parts}
use Rattle.refusal.specs.declared.Reason.TheVariants.{Kind, Length}
use Rattle.refusal.specs.declared.Refusal.{Refusal}
use Rattle.records.specs.Words.{header_of, word_at}
use Rattle.records.specs.Lengths.{length-words}
use Rattle.refusal.specs.Results.{err_not_ok, some_not_none, passed}
use Rattle.records.specs.declared.Header.{Header}
use Rattle.rules.specs.Program.{LawfulRule, within, ascending, disjoint}
use Rattle.rules.specs.Tests.{all}
use Rattle.program.specs.Reading.{rule_record, refuse, opened, opened_rule, by_header, by_count, rule_length, rule_of, known, atoms_fault}
use Rattle.program.specs.Index.{rule_size}
use Rattle.program.specs.declared.reader.RuleRecord.{RuleRecord}

-- a rule record of `size` bytes with k positive atoms stands at the front
pub record RuleHere (rest : List ℕ) (size k : ℕ) : Type 0 where
  pub header : header_of rest ≡ Some (record { length = size; kind = 2 })
  pub whole : 4 + size ≤ length rest
  pub even : size % 2 ≡ 0
  pub short : size ≤ 514
  pub count_word : word_at rest 6 ≡ Some k
  pub counted : 2 * k + 4 ≤ size

pub end_not_rule : (size k : ℕ) → ◌≡◌ {A = Result (Option RuleRecord) Refusal} (Ok None) (Ok (Some (rule_record size k))) → ⊥
end_not_rule size k h = let z : ◌≡◌ {A = ℕ} 0 1 = cc in omega arith

module _ (rest : List ℕ) (place size k : ℕ) where
  by_count_here : (stated : ℕ) → header_of rest ≡ Some (record { length = stated; kind = 2 }) → rule_length stated ≡ true → 4 + stated ≤ length rest
      → (o : Option ℕ) → word_at rest 6 ≡ o → by_count place stated o ≡ Ok (Some (rule_record size k)) → RuleHere rest size k
  by_count_here stated header fit whole None was h = absurd (err_not_ok h)
  by_count_here stated header fit whole (Some m) was h =
      let got = passed (nat_le (2 * m + 4) stated) err_not_ok h in
      let same : rule_record stated m ≡ rule_record size k = cc in
      let same_size : stated ≡ size = ap (λ (r : RuleRecord). r.size) same in
      let same_count : m ≡ k = ap (λ (r : RuleRecord). r.positive) same in
      let fits = and_parts (nat_le 4 stated) (nat_le stated 514 && stated % 2 == 0) fit in
      let more = and_parts (nat_le stated 514) (stated % 2 == 0) fits.1 in
      record {
        header = header ∙ ap (λ s. Some (record { length = s; kind = 2 })) same_size;
        whole = subst (λ s. 4 + s ≤ length rest) same_size whole;
        even = ap (λ s. s % 2) (sym same_size) ∙ eqb-true (stated % 2) 0 more.1;
        short = omega (arith, leb-true stated 514 more.0, same_size);
        count_word = was ∙ ap Some same_count;
        counted = omega (arith, leb-true (2 * m + 4) stated got.0, same_size, same_count);
      }

  opened_rule_here : (stated : ℕ) → header_of rest ≡ Some (record { length = stated; kind = 2 }) → opened_rule rest place stated ≡ Ok (Some (rule_record size k)) → RuleHere rest size k
  opened_rule_here stated header h =
      let fit = passed (rule_length stated) err_not_ok h in
      let whole = passed (nat_le (4 + stated) (length rest)) err_not_ok fit.1 in
      by_count_here stated header fit.0 (leb-true (4 + stated) (length rest) whole.0) (word_at rest 6) refl whole.1

  not_rule : (b d : Bool) → cond b (cond d (Ok None) (refuse Length place)) (refuse Kind place) ≢ Ok (Some (rule_record size k))
  not_rule true true h = end_not_rule size k h
  not_rule true false h = err_not_ok h
  not_rule false d h = err_not_ok h

  by_header_here : (o : Option Header) → header_of rest ≡ o → by_header rest place o ≡ Ok (Some (rule_record size k)) → RuleHere rest size k
  by_header_here None was h = absurd (err_not_ok h)
  by_header_here (Some header) was h =
      let got = passed (header.kind == 2) (not_rule (header.kind == 3) (header.length == 0)) h in
      opened_rule_here header.length (was ∙ ap (λ n. Some (record { length = header.length; kind = n })) (eqb-true header.kind 2 got.0)) got.1

  pub rule_here : opened rest place ≡ Ok (Some (rule_record size k)) → RuleHere rest size k
  rule_here h = by_header_here (header_of rest) refl h

module _ (rest : List ℕ) (size k : ℕ) (here : RuleHere rest size k) where
  -- the bytes of each part
  pub positive_bytes_length : length (between 8 (8 + 2 * k) rest) ≡ 2 * k
  positive_bytes_length = simp (length-take, length-drop) (omega (arith, here.whole, here.counted))

  pub negative_bytes_length : length (between (8 + 2 * k) (4 + size) rest) ≡ 2 * ((size - 4) / 2 - k)
  negative_bytes_length = simp (length-take, length-drop) (omega (arith, here.whole, here.counted, here.even))

  pub positive_length : length (rule_of rest size k).positive ≡ k
  positive_length = length-words k (between 8 (8 + 2 * k) rest) positive_bytes_length

  pub negative_length : length (rule_of rest size k).negative ≡ (size - 4) / 2 - k
  negative_length = length-words ((size - 4) / 2 - k) (between (8 + 2 * k) (4 + size) rest) negative_bytes_length

  -- a rule's record is as long as it says
  pub size_of_rule : rule_size (rule_of rest size k) ≡ 4 + size
  size_of_rule = omega (arith, positive_length, negative_length, here.counted, here.even)

  pub rule_lawful : (n : ℕ) → atoms_fault n (rule_of rest size k) ≡ None → LawfulRule n (rule_of rest size k)
  rule_lawful n fine =
      let r = rule_of rest size k in
      let atoms = passed (known n r) some_not_none fine in
      let order = passed (ascending r.positive && ascending r.negative) some_not_none atoms.1 in
      let apart = passed (disjoint r.positive r.negative) some_not_none order.1 in
      let named = and_parts (nat_le r.head n) (all (within n) r.positive && all (within n) r.negative) atoms.0 in
      let parts = and_parts (all (within n) r.positive) (all (within n) r.negative) named.1 in
      let orders = and_parts (ascending r.positive) (ascending r.negative) order.0 in
      record {
        head_known = leb-true r.head n named.0;
        positive_known = parts.0;
        negative_known = parts.1;
        positive_ascends = orders.0;
        negative_ascends = orders.1;
        parts_disjoint = apart.0;
        few_atoms = omega (arith, positive_length, negative_length, here.short, here.counted);
      }
