-- The greatest number of the atoms of a list. Assumes nothing.
use Rattle.std.proofs.Common.{ℕ, ◌≤◌, List, [], ◌∷◌, refl, arith}
use Rattle.std.proofs.Math.Nat.{max-le}
use Rattle.std.specs.List.{AllByRecursion}
use Rattle.std.proofs.ByRecursion.{All-from_get_or}
use Rattle.std.proofs.lemmas.List.Recursion.{max_bounds}
use Rattle.rankings.specs.Ranking.{greatest}

module _ (number : ℕ → ℕ) where
  pub each_upto_greatest : (atoms : List ℕ) → AllByRecursion (λ b. number b ≤ greatest number atoms) atoms
  each_upto_greatest atoms = All-from_get_or (λ b. number b ≤ greatest number atoms) atoms 0 (λ i l. max_bounds (greatest number) number refl (λ _ _. refl) atoms i 0 l)

  pub greatest_upto : (k : ℕ) (atoms : List ℕ) → AllByRecursion (λ b. number b ≤ k) atoms → greatest number atoms ≤ k
  greatest_upto k [] h = omega arith
  greatest_upto k (a ∷ atoms) h = max-le h.0 (greatest_upto k atoms h.1)
