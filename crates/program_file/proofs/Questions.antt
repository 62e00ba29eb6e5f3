-- What a checked file answers is what its program has. Assumes nothing.
use Rattle.std.proofs.Common.{◌≡◌, ℕ, zero, suc, ◌+◌, ◌-◌, ◌*◌, ◌/◌, ◌≤◌, Bool, true, false, cond, eqb, ltb, leb, List, [], ◌∷◌, length, get_or, take, drop, set, replicate, is_ok, Some, None, Option, unwrap_or, sym, refl, ap, ◌∙◌, subst, ⊎_elim, add-zero, arith, length-drop, length-set}
use lib.ListN.{length-replicate}
use Rattle.std.proofs.lemmas.List.{drop-drop}
use Rattle.std.proofs.lemmas.Option.{slice_get-get_or, slice_get_past}
use Rattle.std.proofs.lemmas.Bool.{leb-true, leb-false, le-leb, ne_eqb, and_from, and_parts, and_cases, cond-true, cond-false}
use Rattle.std.specs.List.{slice_get}
use Rattle.std.specs.Option.{option_map}
use Rattle.records.specs.Words.{words, first_word, word_at}
use Rattle.refusal.specs.Results.{some_not_none}
use Rattle.records.proofs.Words.{nth_part}
use Rattle.records.proofs.Encoded.{first_word_there, first_word_of_header}
use Rattle.rules.specs.Program.{Rule, Program, within}
use Rattle.rules.specs.Questions.{rule_at, in_part}
use Rattle.program.specs.Reading.{program_in, read_or_empty}
use Rattle.program.specs.Index.{rule_size, with_starts, index_of}
use Rattle.program_file.specs.Stored.{Whole, stored_size, stored_count, stored_head, by_positive, stored_positive, by_negative, stored_negative}
use Rattle.program.specs.Lawful.{Parts, parts_of, parts_sound}
use Rattle.program.specs.declared.reader.Index.{Index}
use Rattle.program_file.proofs.Starts.{StandsAt, stands, ok_program}

length_starts : (rules : List Rule) (starts : List ℕ) (k place : ℕ) → length (with_starts starts k place rules) ≡ length starts
length_starts [] starts k place = refl
length_starts (r ∷ rules) starts k place = length_starts rules (set starts k place) (k + 1) (place + rule_size r) ∙ length-set starts k place

-- what the index says of a rule
abbrev pub start_in : Index → ℕ → Option ℕ
start_in index rule = cond (within index.count rule) (slice_get index.starts (rule - 1)) None

module _ (bytes : List ℕ) (ok : is_ok (program_in bytes) ≡ true) where
  abbrev the_program : Program
  the_program = read_or_empty (program_in bytes)

  abbrev the_starts : List ℕ
  the_starts = with_starts (replicate 8000 0) 0 8 the_program.rules

  the_parts : Parts bytes the_program
  the_parts = parts_of bytes the_program (ok_program (program_in bytes) ok)

  few_rules : length the_program.rules ≤ 8000
  few_rules = (parts_sound bytes the_program the_parts).1

  many_starts : length the_starts ≡ 8000
  many_starts = length_starts the_program.rules (replicate 8000 0) 0 8 ∙ length-replicate {A = ℕ} 8000 0

  at_rule : (rule : ℕ) → 1 ≤ rule → rule ≤ length the_program.rules → StandsAt bytes (get_or the_starts (rule - 1) 0) (rule_at the_program rule)
  at_rule rule low high =
      let found = stands bytes the_parts.head.atoms the_parts.head.rules 8000 0 8 (replicate 8000 0) the_program.rules the_parts.rules_read
      (omega (arith, few_rules, length-replicate {A = ℕ} 8000 0)) (rule - 1) (omega arith) in
      let zero_first : 0 + (rule - 1) ≡ rule - 1 = omega arith in
      let moved = subst (λ i. StandsAt bytes (get_or the_starts i 0) (slice_get the_program.rules (rule - 1))) zero_first found in
      let not_zero : eqb rule 0 ≡ false = ne_eqb rule 0 (λ e. omega arith) in
      subst (λ o. StandsAt bytes (get_or the_starts (rule - 1) 0) o) (sym (cond-false (eqb rule 0) None (slice_get the_program.rules (rule - 1)) not_zero)) moved

  inside : (rule : ℕ) → 1 ≤ rule → rule ≤ length the_program.rules → start_in (index_of the_program) rule ≡ Some (get_or the_starts (rule - 1) 0)
  inside rule low high =
      cond-true (within (length the_program.rules) rule) (slice_get the_starts (rule - 1)) None (and_from (leb 1 rule) (leb rule (length the_program.rules)) (le-leb 1 rule low) (le-leb rule (length the_program.rules) high))
      ∙ slice_get-get_or the_starts (rule - 1) 0 (omega (arith, many_starts, few_rules))

  -- a rule past the list is absent, and so is rule 0
  no_rule : (rule : ℕ) → within (length the_program.rules) rule ≡ false → rule_at the_program rule ≡ None
  no_rule zero out = refl
  no_rule (suc rule) out =
      ⊎_elim (λ (low : leb 1 (suc rule) ≡ false). absurd (omega (arith, leb-false 1 (suc rule) low)))
      (λ (high : leb (suc rule) (length the_program.rules) ≡ false). cond-false (eqb (suc rule) 0) None (slice_get the_program.rules (suc rule - 1)) (ne_eqb (suc rule) 0 (λ e. omega arith))
      ∙ slice_get_past the_program.rules (suc rule - 1) (omega (arith, leb-false (suc rule) (length the_program.rules) high)))
      (and_cases (leb 1 (suc rule)) (leb (suc rule) (length the_program.rules)) out)

  by_within : (rule : ℕ) (start : ℕ) (b : Bool) → within (length the_program.rules) rule ≡ b → Some start ≡ start_in (index_of the_program) rule → StandsAt bytes start (rule_at the_program rule)
  by_within rule start true is given =
      let bounds = and_parts (leb 1 rule) (leb rule (length the_program.rules)) is in
      let low = leb-true 1 rule bounds.0 in
      let high = leb-true rule (length the_program.rules) bounds.1 in
      let both : Some (get_or the_starts (rule - 1) 0) ≡ Some start = sym (given ∙ inside rule low high) in
      let same : get_or the_starts (rule - 1) 0 ≡ start = ap (λ o. unwrap_or o 0) both in
      subst (λ s. StandsAt bytes s (rule_at the_program rule)) same (at_rule rule low high)
  by_within rule start false is given =
      let none : Some start ≡ None = given ∙ cond-false (within (length the_program.rules) rule) (slice_get the_starts (rule - 1)) None is in
      absurd (some_not_none none)

  absent : (rule : ℕ) (b : Bool) → within (length the_program.rules) rule ≡ b → None ≡ start_in (index_of the_program) rule → rule_at the_program rule ≡ None
  absent rule true is given =
      let bounds = and_parts (leb 1 rule) (leb rule (length the_program.rules)) is in
      let some : None ≡ Some (get_or the_starts (rule - 1) 0) = given ∙ inside rule (leb-true 1 rule bounds.0) (leb-true rule (length the_program.rules) bounds.1) in
      absurd (some_not_none (sym some))
  absent rule false is given = no_rule rule is

  module _ (index : Index) (is : index ≡ index_of the_program) (rule : ℕ) where
    pub rule_stands : (start : ℕ) → Some start ≡ start_in index rule → StandsAt bytes start (rule_at the_program rule)
    rule_stands start given = by_within rule start (within (length the_program.rules) rule) refl (given ∙ ap (λ i. start_in i rule) is)

    pub rule_absent : None ≡ start_in index rule → rule_at the_program rule ≡ None
    rule_absent given = absent rule (within (length the_program.rules) rule) refl (given ∙ ap (λ i. start_in i rule) is)

-- the questions, where the rule stands at `start`
module _ (bytes : List ℕ) (start : ℕ) (rule : Option Rule) (at : StandsAt bytes start rule) where
  moved : (i : ℕ) → word_at (drop start bytes) i ≡ word_at bytes (start + i)
  moved i = ap first_word (drop-drop i start bytes)

  -- numbers further on in the record
  further : (i j : ℕ) → first_word (drop j (drop i (drop start bytes))) ≡ word_at bytes ((start + i) + j)
  further i j = ap (λ xs. first_word (drop j xs)) (drop-drop i start bytes) ∙ ap first_word (drop-drop j (start + i) bytes)

  size_there : stored_size bytes start ≡ at.size
  size_there = ap (λ m. unwrap_or (word_at bytes m) 0) (sym (add-zero start)) ∙ ap (λ o. unwrap_or o 0) (sym (moved 0) ∙ first_word_of_header (drop start bytes) (record { length = at.size; kind = 2 }) at.here.header)

  count_there : stored_count bytes start ≡ at.count
  count_there = ap (λ o. unwrap_or o 0) (sym (moved 6) ∙ at.here.count_word)

  pub whole_there : Whole bytes start
  whole_there = record {
    counted = omega (arith, at.here.counted, size_there, count_there);
    ends = omega (arith, simp length-drop at at.here.whole, size_there);
  }

  pub head_answer : stored_head bytes start ≡ option_map (λ r. r.head) rule
  head_answer =
      sym (moved 4)
      ∙ first_word_there (drop 4 (drop start bytes)) (simp length-drop (omega (arith, simp length-drop at at.here.whole, at.here.counted)))
      ∙ ap (option_map (λ r. r.head)) (sym at.is)

  pub positive_answer : (i : ℕ) → stored_positive bytes start i ≡ in_part (option_map (λ r. r.positive) rule) i
  positive_answer i =
      let k = at.count in
      let two : (8 + 2 * k) - 8 ≡ 2 * k = omega arith in
      ap (by_positive bytes start i) (sym (moved 6) ∙ at.here.count_word)
      ∙ ap (λ o. cond (ltb i k) o None) (sym (further 8 (2 * i)))
      ∙ sym (nth_part k (drop 8 (drop start bytes)) i)
      ∙ ap (λ m. slice_get (words (take m (drop 8 (drop start bytes)))) i) (sym two)
      ∙ ap (λ o. in_part (option_map (λ r. r.positive) o) i) (sym at.is)

  pub negative_answer : (i : ℕ) → stored_negative bytes start i ≡ in_part (option_map (λ r. r.negative) rule) i
  negative_answer i =
      let k = at.count in
      let size = at.size in
      let many = (size - 4) / 2 - k in
      let two : (4 + size) - (8 + 2 * k) ≡ 2 * many = omega (arith, at.here.counted, at.here.even) in
      let first : word_at bytes start ≡ Some size = ap (λ m. word_at bytes m) (sym (add-zero start)) ∙ sym (moved 0) ∙ first_word_of_header (drop start bytes) (record { length = size; kind = 2 }) at.here.header in
      ap (λ o. by_negative bytes start i o (word_at bytes (start + 6))) first
      ∙ ap (by_negative bytes start i (Some size)) (sym (moved 6) ∙ at.here.count_word)
      ∙ ap (λ o. cond (ltb i many) o None) (sym (further (8 + 2 * k) (2 * i)))
      ∙ sym (nth_part many (drop (8 + 2 * k) (drop start bytes)) i)
      ∙ ap (λ m. slice_get (words (take m (drop (8 + 2 * k) (drop start bytes)))) i) (sym two)
      ∙ ap (λ o. in_part (option_map (λ r. r.negative) o) i) (sym at.is)
