-- The rule that is written. Assumes nothing.
use Rattle.std.specs.Prelude.{ℕ, []}
use Rattle.std.specs.Option.{unwrap_or}
use Rattle.rules.specs.Program.{Rule, Program}
use Rattle.rules.specs.Questions.{rule_at}

-- the rule with a number; an absent one is the constraint without a body
abbrev pub rule_or_empty : Program → ℕ → Rule
rule_or_empty p k = unwrap_or (rule_at p k) (record { head = 0; positive = []; negative = [] })
