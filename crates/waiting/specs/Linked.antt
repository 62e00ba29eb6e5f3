-- How the items that wait are linked in arrays: first is by key, next and keys are by item, and 0 stands for none. Assumes nothing.
use Rattle.std.specs.Prelude.{◌≡◌, ℕ, ◌≤◌, ◌<◌, false, List, [], ◌∷◌, ◌==◌, get_or}
use Rattle.rules.specs.Tests.{member}

-- the items of the list stand one after the other from x on, each has one of the places from 1 on, and 0 ends them
abbrev pub Chain : ℕ → List ℕ → ℕ → List ℕ → Type 0
Chain places next x [] = x ≡ 0
Chain places next x (item ∷ rest) = (x ≡ item) × (1 ≤ item) × (item < places) × Chain places next (get_or next item 0) rest

-- no number stands in the list twice
abbrev pub Distinct : List ℕ → Type 0
Distinct [] = Unit {0}
Distinct (item ∷ rest) = (member item rest ≡ false) × Distinct rest

-- the list that begins at x holds each item of the key once, and no other
pub record Listed (places : ℕ) (next keys : List ℕ) (x key : ℕ) : Type 0 where
  pub items : List ℕ
  pub chained : Chain places next x items
  pub distinct : Distinct items
  pub owned : (item : ℕ) → member item items ≡ (get_or keys item 0 == key)

-- each of the keys 1 to 4097 has its list, and no item has a key above them
pub record Linked (places : ℕ) (first next keys : List ℕ) : Type 0 where
  pub listed : (key : ℕ) → 1 ≤ key → key ≤ 4097 → Listed places next keys (get_or first key 0) key
  pub bounded : (item : ℕ) → get_or keys item 0 ≤ 4097
