-- A list that is walked, and each of its elements replaced. Assumes nothing.
use Rattle.std.proofs.Common.{◌≡◌, ℕ, zero, suc, ◌+◌, ◌<◌, ◌≤◌, List, [], ◌∷◌, map, length, set, get_or, refl, ap, arith}

module _ {X : Type 0} (f : X → X) where
  -- the list with f done to each of its first i elements
  abbrev pub walked : ℕ → List X → List X
  walked zero xs = xs
  walked (suc i) [] = []
  walked (suc i) (x ∷ xs) = f x ∷ walked i xs

  pub walked_all : (i : ℕ) (xs : List X) → length xs ≤ i → walked i xs ≡ map f xs
  walked_all zero [] past = refl
  walked_all zero (x ∷ xs) past = absurd (omega arith)
  walked_all (suc i) [] past = refl
  walked_all (suc i) (x ∷ xs) past = ap (λ ys. f x ∷ ys) (walked_all i xs (omega arith))

  pub length_walked : (i : ℕ) (xs : List X) → length (walked i xs) ≡ length xs
  length_walked zero xs = refl
  length_walked (suc i) [] = refl
  length_walked (suc i) (x ∷ xs) = ap suc (length_walked i xs)

  pub walked_at : (i : ℕ) (xs : List X) (d : X) → get_or (walked i xs) i d ≡ get_or xs i d
  walked_at zero xs d = refl
  walked_at (suc i) [] d = refl
  walked_at (suc i) (x ∷ xs) d = walked_at i xs d

  pub walked_next : (i : ℕ) (xs : List X) (d : X) → i < length xs → set (walked i xs) i (f (get_or xs i d)) ≡ walked (i + 1) xs
  walked_next zero [] d within = absurd (omega arith)
  walked_next zero (x ∷ xs) d within = refl
  walked_next (suc i) [] d within = absurd (omega arith)
  walked_next (suc i) (x ∷ xs) d within = let next : suc i + 1 ≡ suc (i + 1) = omega arith in rw next (ap (λ ys. f x ∷ ys) (walked_next i xs d (omega arith)))
