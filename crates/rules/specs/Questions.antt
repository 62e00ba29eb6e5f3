-- What can be asked of a program: rules are numbered from 1, positions in a part from 0. Assumes nothing.
use Rattle.std.specs.Prelude.{ℕ, ◌-◌, cond, List, [], Some, None, Option, ◌==◌}
use Rattle.std.specs.List.{slice_get}
use Rattle.std.specs.Option.{option_map, unwrap_or}
use Rattle.rules.specs.Program.{Rule, Program}

abbrev pub rule_at : Program → ℕ → Option Rule
rule_at p k = cond (k == 0) None (slice_get p.rules (k - 1))

abbrev pub head_at : Program → ℕ → Option ℕ
head_at p k = option_map (λ r. r.head) (rule_at p k)

-- what stands at a position of a list that may be absent
abbrev pub in_part : Option (List ℕ) → ℕ → Option ℕ
in_part None i = None
in_part (Some part) i = slice_get part i

abbrev pub positive_at : Program → ℕ → ℕ → Option ℕ
positive_at p k i = in_part (option_map (λ r. r.positive) (rule_at p k)) i

abbrev pub negative_at : Program → ℕ → ℕ → Option ℕ
negative_at p k i = in_part (option_map (λ r. r.negative) (rule_at p k)) i

-- the positive part of a rule; that of an absent rule is empty
abbrev pub positive_part : Program → ℕ → List ℕ
positive_part p k = unwrap_or (option_map (λ r. r.positive) (rule_at p k)) []

-- the negative part of a rule; that of an absent rule is empty
abbrev pub negative_part : Program → ℕ → List ℕ
negative_part p k = unwrap_or (option_map (λ r. r.negative) (rule_at p k)) []
