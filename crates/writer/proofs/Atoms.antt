-- The parts of the rule that is written, and room for their atoms. Assumes nothing.
use Rattle.std.proofs.Common.{length-append, ◌≡◌, ℕ, ◌+◌, ◌≤◌, List, [], ◌++◌, length, Some, None, Option, unwrap_or, sym, refl, ap, arith}
use Rattle.std.specs.Option.{option_map}
use Rattle.records.specs.Words.{word_bytes}
use Rattle.records.proofs.Encoded.{length-word_bytes}
use Rattle.rules.specs.Program.{Rule, Program}
use Rattle.rules.specs.Questions.{rule_at, positive_part, negative_part}
use Rattle.writer.specs.Parts.{rule_or_empty}

-- before the bytes of a number there is room for two
pub room_left : (front : List ℕ) (numbers all : List ℕ) → front ++ word_bytes numbers ≡ all → 1 ≤ length numbers → length front + 2 ≤ length all
room_left front numbers all is some = omega (arith, ap length is, length-append front (word_bytes numbers), length-word_bytes numbers)

of_rule : (o : Option Rule) (empty : Rule) → empty.positive ≡ [] → empty.negative ≡ [] → (unwrap_or (option_map (λ r. r.positive) o) [] ≡ (unwrap_or o empty).positive) × (unwrap_or (option_map (λ r. r.negative) o) [] ≡ (unwrap_or o empty).negative)
of_rule None empty left right = (sym left, sym right)
of_rule (Some r) empty left right = (refl, refl)

-- the parts are those of the rule with the number
module _ (p : Program) (k : ℕ) where
  pub positive_is : positive_part p k ≡ (rule_or_empty p k).positive
  positive_is = (of_rule (rule_at p k) (record { head = 0; positive = []; negative = [] }) refl refl).0

  pub negative_is : negative_part p k ≡ (rule_or_empty p k).negative
  negative_is = (of_rule (rule_at p k) (record { head = 0; positive = []; negative = [] }) refl refl).1
