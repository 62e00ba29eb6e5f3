-- What is asked of a rule by its number, for a set of atoms. Assumes nothing.
use Rattle.std.specs.Prelude.{ℕ, Bool, true, false, length, Some, None, Option}
use Rattle.std.specs.Option.{option_map, unwrap_or}
use Rattle.rules.specs.Program.{Rule, Program}
use Rattle.rules.specs.Questions.{rule_at}
use Rattle.rules.specs.Stable.{Atoms, body, broken, supports}
use Rattle.rules.specs.Tests.{lowest}

-- the body of rule k is true; that of an absent rule is empty
abbrev pub body_at : Program → Atoms → ℕ → Bool
body_at p set k = unwrap_or (option_map (body set) (rule_at p k)) true

-- rule k supports the atom a; an absent rule supports none
abbrev pub supports_at : Program → Atoms → ℕ → ℕ → Bool
supports_at p set a k = unwrap_or (option_map (supports set a) (rule_at p k)) false

-- a rule that may be absent is there and broken
abbrev pub is_broken : Atoms → Option Rule → Bool
is_broken set None = false
is_broken set (Some r) = broken set r

-- the lowest broken rule
abbrev pub lowest_broken : Program → Atoms → Option ℕ
lowest_broken p set = lowest (λ k. is_broken set (rule_at p k)) (length p.rules)
