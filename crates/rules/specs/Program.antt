-- A ground normal program: the atoms 1 to n, and a list of rules. Assumes nothing.
use Rattle.std.specs.Prelude.{◌≡◌, ℕ, ◌+◌, ◌≤◌, Bool, true, not, ◌&&◌, List, [], ◌∷◌, length, nat_le, nat_lt}
use Rattle.std.specs.List.{AllByRecursion}
use Rattle.rules.specs.Tests.{all, member}

-- head ← positive, not negative. Head 0 is that of a constraint
pub record Rule : Type 0 where
  pub head : ℕ
  pub positive : List ℕ
  pub negative : List ℕ

pub record Program : Type 0 where
  pub atoms : ℕ
  pub rules : List Rule

-- a is an atom, where atoms are 1 to n
abbrev pub within : ℕ → ℕ → Bool
within n a = nat_le 1 a && nat_le a n

-- each number is above the one before it, and the first above `low`
abbrev pub ascends_above : ℕ → List ℕ → Bool
ascends_above low [] = true
ascends_above low (a ∷ rest) = nat_lt low a && ascends_above a rest

-- each number is above the one before it
abbrev pub ascending : List ℕ → Bool
ascending [] = true
ascending (a ∷ rest) = ascends_above a rest

-- no atom stands in both lists
abbrev pub disjoint : List ℕ → List ℕ → Bool
disjoint xs ys = all (λ a. not (member a ys)) xs

-- a rule over the atoms 1 to n
pub record LawfulRule (n : ℕ) (r : Rule) : Type 0 where
  pub head_known : r.head ≤ n
  pub positive_known : all (within n) r.positive ≡ true
  pub negative_known : all (within n) r.negative ≡ true
  pub positive_ascends : ascending r.positive ≡ true
  pub negative_ascends : ascending r.negative ≡ true
  pub parts_disjoint : disjoint r.positive r.negative ≡ true
  pub few_atoms : length r.positive + length r.negative ≤ 255

pub record Lawful (p : Program) : Type 0 where
  pub atoms_bound : p.atoms ≤ 4096
  pub rules_bound : length p.rules ≤ 16384
  pub each_lawful : AllByRecursion (LawfulRule p.atoms) p.rules
