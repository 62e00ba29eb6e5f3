-- What holds of rankings, rounds and stable sets. Assumes nothing.
use Rattle.std.specs.Prelude.{◌≡◌, ℕ, true, false, ◌↔◌}
use Rattle.rules.specs.Program.{Program, within}
use Rattle.rules.specs.Stable.{Atoms, Stable, broken}
use Rattle.rules.specs.Tests.{any}
use Rattle.rankings.specs.Ranking.{Ranked, StrictRanking, StrongRanking}

-- each atom of the set is an atom of the program
abbrev pub Known : Program → Atoms → Type 0
Known p set = (a : ℕ) → set a ≡ true → within p.atoms a ≡ true

-- no rule is broken
abbrev pub NoneBroken : Program → Atoms → Type 0
NoneBroken p set = any (broken set) p.rules ≡ false

-- a set of the program's atoms is stable exactly when no rule is broken and a strict ranking of it exists
abbrev pub StableWhenRanked : Program → Type 0
StableWhenRanked p = (set : Atoms) → Known p set → Stable p set ↔ (NoneBroken p set × Ranked p set)

-- two strict rankings of a set give each atom of it the same number
abbrev pub OneRanking : Program → Type 0
OneRanking p = (set : Atoms) (number other : ℕ → ℕ) → StrictRanking p set number → StrictRanking p set other → (a : ℕ) → set a ≡ true → number a ≡ other a

-- the strict rankings of a set are its strong level rankings
abbrev pub StrictWhenStrong : Program → Type 0
StrictWhenStrong p = (set : Atoms) (number : ℕ → ℕ) → StrictRanking p set number ↔ StrongRanking p set number
