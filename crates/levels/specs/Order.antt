-- What is owed of a level order. Assumes nothing.
use Rattle.std.specs.Prelude.{◌≡◌, ℕ, ◌<◌, ◌≤◌, Bool, true, false}

-- `below` is a strict order, and its rungs 1 to `count` ascend in it
pub record Order {L : Type 0} (below : L → L → Bool) (count : ℕ) (rung : ℕ → L) : Type 0 where
  pub irrefl : (x : L) → below x x ≡ false
  pub trans : (x y z : L) → below x y ≡ true → below y z ≡ true → below x z ≡ true
  pub ascend : (j k : ℕ) → 1 ≤ j → j < k → k ≤ count → below (rung j) (rung k) ≡ true
