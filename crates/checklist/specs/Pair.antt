-- The program of two atoms that rest only on each other. Assumes nothing.
use Rattle.std.specs.Prelude.{ℕ, [], ◌∷◌}
use Rattle.rules.specs.Program.{Rule, Program}

-- a ← b
abbrev pub rests_on : ℕ → ℕ → Rule
rests_on a b = record { head = a; positive = b ∷ []; negative = [] }

-- 1 ← 2 and 2 ← 1
abbrev pub pair : Program
pair = record { atoms = 2; rules = rests_on 1 2 ∷ rests_on 2 1 ∷ [] }
