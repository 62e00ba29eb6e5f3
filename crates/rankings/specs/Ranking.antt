-- Rankings of a set of atoms by whole numbers, after Niemelä: the strict ranking, and the strong level ranking. Assumes nothing.
use Rattle.std.specs.Prelude.{◌≡◌, ℕ, ◌+◌, ◌≤◌, ◌≢◌, max, true, ◌&&◌, List, [], ◌∷◌, ◌==◌, nat_lt}
use Rattle.std.specs.List.{AllByRecursion}
use Rattle.rules.specs.Program.{Program}
use Rattle.rules.specs.Stable.{Atoms, supports, supports_with}
use Rattle.rules.specs.Tests.{any}

-- the greatest number of the atoms; 0 where there are none
abbrev pub greatest : (ℕ → ℕ) → List ℕ → ℕ
greatest number [] = 0
greatest number (a ∷ atoms) = max (number a) (greatest number atoms)

-- each atom of the set has for its number one more than the least, over the rules that support it, of the greatest number in the positive part
pub record StrictRanking (p : Program) (set : Atoms) (number : ℕ → ℕ) : Type 0 where
  pub reached : (a : ℕ) → set a ≡ true → any (λ r. supports set a r && number a == greatest number r.positive + 1) p.rules ≡ true
  pub least : (a : ℕ) → set a ≡ true → AllByRecursion (λ r. supports set a r ≡ true → number a ≤ greatest number r.positive + 1) p.rules

-- a strict ranking of the set exists
abbrev pub Ranked : Program → Atoms → Type 0
Ranked p set = (number : ℕ → ℕ) × StrictRanking p set number

-- a level ranking: some rule supports each atom of the set with all positive numbers below the atom's own.
-- It is strong: over the rules that support the atom, its number is 1 where the positive part is empty, and elsewhere no more than one above the greatest
pub record StrongRanking (p : Program) (set : Atoms) (number : ℕ → ℕ) : Type 0 where
  pub above : (a : ℕ) → set a ≡ true → any (supports_with (λ b. nat_lt (number b) (number a)) set a) p.rules ≡ true
  pub one : (a : ℕ) → set a ≡ true → AllByRecursion (λ r. supports set a r ≡ true → r.positive ≡ [] → number a ≡ 1) p.rules
  pub close : (a : ℕ) → set a ≡ true → AllByRecursion (λ r. supports set a r ≡ true → r.positive ≢ [] → number a ≤ greatest number r.positive + 1) p.rules
