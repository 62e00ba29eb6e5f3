-- Stable sets of a ground normal program, after Gelfond and Lifschitz. Assumes nothing.
use Rattle.std.specs.Prelude.{◌≡◌, ℕ, Bool, true, false, not, ◌&&◌, ◌||◌, List, [], map, filter, ◌==◌}
use Rattle.std.specs.List.{AllByRecursion}
use Rattle.rules.specs.Tests.{all, any}
use Rattle.rules.specs.Program.{Rule, Program}

-- a set of atoms, as the test of what is in it
abbrev pub Atoms : Type 0
Atoms = ℕ → Bool

-- the body is true: each positive atom is in the set, and no negative one
abbrev pub body : Atoms → Rule → Bool
body set r = all set r.positive && not (any set r.negative)

-- the body is true, and the head is that of a constraint or out of the set
abbrev pub broken : Atoms → Rule → Bool
broken set r = body set r && (r.head == 0 || not (set r.head))

-- the rule supports the atom a, and each of its positive atoms passes the test
abbrev pub supports_with : (ℕ → Bool) → Atoms → ℕ → Rule → Bool
supports_with test set a r = r.head == a && (set a && (body set r && all test r.positive))

-- the rule's head is a, its body is true and a is in the set
abbrev pub supports : Atoms → ℕ → Rule → Bool
supports set a r = r.head == a && (set a && body set r)

-- the rule has an atom for its head, and no atom of the set in its negative part
abbrev pub stays : Atoms → Rule → Bool
stays set r = not (r.head == 0) && not (any set r.negative)

abbrev pub without_negative : Rule → Rule
without_negative r = record { head = r.head; positive = r.positive; negative = [] }

-- the rules that stay, each without its negative part
abbrev pub reduct : Atoms → List Rule → List Rule
reduct set rules = map without_negative (filter (stays set) rules)

-- where a rule's positive atoms are in the set, so is its head
abbrev pub Closed : List Rule → Atoms → Type 0
Closed rules set = AllByRecursion (λ r. all set r.positive ≡ true → set r.head ≡ true) rules

-- the smallest set that is closed under the rules
abbrev pub LeastModel : List Rule → Atoms → Type 0
LeastModel rules set = Closed rules set × ((other : Atoms) → Closed rules other → (a : ℕ) → set a ≡ true → other a ≡ true)

abbrev pub broken_constraint : Atoms → Rule → Bool
broken_constraint set r = r.head == 0 && body set r

-- the set is the least model of its reduct, and breaks no constraint
pub record Stable (p : Program) (set : Atoms) : Type 0 where
  pub least : LeastModel (reduct set p.rules) set
  pub constraints : any (broken_constraint set) p.rules ≡ false
