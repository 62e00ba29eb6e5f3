-- The record of a rule, from the questions that are asked about it. Assumes nothing.
use Rattle.std.proofs.Common.{◌≡◌, ℕ, ◌+◌, ◌*◌, List, [], ◌++◌, length, Some, None, Option, unwrap_or, sym, refl, ap, ◌∙◌, arith}
use Rattle.std.specs.Option.{option_map}
use Rattle.records.specs.Words.{two_bytes, word_bytes}
use Rattle.records.proofs.Encoded.{word_bytes-append, length_record}
use Rattle.rules.specs.Program.{Rule, Program}
use Rattle.rules.specs.Questions.{rule_at, head_at, positive_part, negative_part}
use Rattle.program.specs.Encoding.{rule_bytes}
use Rattle.program.proofs.Encoded.{rule_words, contents_size, contents_size_is}
use Rattle.writer.specs.Parts.{rule_or_empty}
use Rattle.writer.proofs.Atoms.{positive_is, negative_is}

-- the four numbers and the two parts as they follow each other
abbrev pub in_turn : ℕ → ℕ → ℕ → List ℕ → List ℕ → List ℕ
in_turn size head count positive negative = two_bytes size ++ (two_bytes 2 ++ (two_bytes head ++ (two_bytes count ++ (word_bytes positive ++ word_bytes negative))))

rule_in_turn : (r : Rule) → in_turn (contents_size r) r.head (length r.positive) r.positive r.negative ≡ rule_bytes r
rule_in_turn r = ap (λ t. two_bytes (contents_size r) ++ (two_bytes 2 ++ (two_bytes r.head ++ (two_bytes (length r.positive) ++ t)))) (sym (word_bytes-append r.positive r.negative))

head_of : (o : Option Rule) (empty : Rule) → empty.head ≡ 0 → unwrap_or (option_map (λ r. r.head) o) 0 ≡ (unwrap_or o empty).head
head_of None empty zero = sym zero
head_of (Some r) empty zero = refl

module _ (p : Program) (k : ℕ) where
  abbrev the_rule : Rule
  the_rule = rule_or_empty p k

  abbrev atoms : ℕ
  atoms = length (positive_part p k) + length (negative_part p k)

  size_is : 4 + 2 * atoms ≡ contents_size the_rule
  size_is = omega (arith, contents_size_is the_rule, ap length (positive_is p k), ap length (negative_is p k))

  pub rule_length : length (rule_bytes the_rule) ≡ 8 + 2 * atoms
  rule_length = omega (arith, length_record 2 (word_bytes (rule_words the_rule)), size_is)

  -- what is asked about a rule makes its record
  pub asked_in_turn : (size head count : ℕ) → size ≡ 4 + 2 * atoms → head ≡ unwrap_or (head_at p k) 0 → count ≡ length (positive_part p k)
      → in_turn size head count (positive_part p k) (negative_part p k) ≡ rule_bytes the_rule
  asked_in_turn size head count size_so head_so count_so =
      let left = positive_part p k in
      let right = negative_part p k in
      ap (λ n. in_turn n head count left right) (size_so ∙ size_is)
      ∙ ap (λ n. in_turn (contents_size the_rule) n count left right) (head_so ∙ head_of (rule_at p k) (record { head = 0; positive = []; negative = [] }) refl)
      ∙ ap (λ n. in_turn (contents_size the_rule) the_rule.head n left right) (count_so ∙ ap length (positive_is p k))
      ∙ ap (λ t. in_turn (contents_size the_rule) the_rule.head (length the_rule.positive) t right) (positive_is p k)
      ∙ ap (λ t. in_turn (contents_size the_rule) the_rule.head (length the_rule.positive) the_rule.positive t) (negative_is p k)
      ∙ rule_in_turn the_rule
