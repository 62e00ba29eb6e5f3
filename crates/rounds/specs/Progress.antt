-- How far a round has come in taking atoms: where each rule waits, and the rules of which atoms are still to be asked. Assumes nothing.
use Rattle.std.specs.Prelude.{◌≡◌, ℕ, suc, ◌+◌, ◌≤◌, ◌<◌, ◌≢◌, true, false, Bool, not, ◌&&◌, List, [], ◌∷◌, cond, length, Some, None, Option, ◌⊎◌}
use Rattle.std.specs.List.{slice_get}
use Rattle.rules.specs.Program.{Rule, Program}
use Rattle.rules.specs.Questions.{rule_at}
use Rattle.rules.specs.Stable.{Atoms, supports}
use Rattle.rules.specs.Tests.{any}
use Rattle.rankings.specs.Rounds.{round_upto, taken}
use Rattle.waiting.specs.Waiting.{key_of}
use Rattle.rounds.specs.Taking.{number_in}
use Rattle.rounds.specs.declared.standing.Taking.{Taking}
use Rattle.rounds.specs.declared.standing.Wait.{Wait}

-- what every rule waits for at first: a number above those of the atoms
abbrev pub start : ℕ
start = 4097

-- the first atom of a list that fails the test, with its position, where those before the list are so many
abbrev pub first_wait : (ℕ → Bool) → ℕ → List ℕ → Option Wait
first_wait test position [] = None
first_wait test position (a ∷ atoms) = cond (test a) (first_wait test (position + 1) atoms) (Some (record { position = position; atom = a }))

-- the atom is in the set, and none of the negative atoms is
abbrev pub rest_holds : Atoms → ℕ → List ℕ → Bool
rest_holds set a negative = set a && not (any set negative)

-- rule k is there, and each atom before the position where it stands was taken by the rounds up to `last`, or is the one that it waits for
pub record Begun (p : Program) (set : Atoms) (last position atom k : ℕ) : Type 0 where
  pub rule : Rule
  pub there : rule_at p k ≡ Some rule
  pub behind : (i a : ℕ) → i < position → slice_get rule.positive i ≡ Some a → (taken p set last a ≡ true) ⊎ (a ≡ atom)

-- the rounds up to `last` are over, and the one after them is under way
module _ (p : Program) (set : Atoms) (last : ℕ) (rounds : List ℕ) where
  -- the atom has the number that the rounds up to the last gave it, or this round took it
  abbrev pub Numbered : ℕ → Type 0
  Numbered a = (number_in rounds a ≡ round_upto p set last a) ⊎ ((round_upto p set last a ≡ 0) × (number_in rounds a ≡ suc last) × (taken p set (suc last) a ≡ true))

  -- the atom's rules may be asked in this round: an earlier round took it, or it is the start
  abbrev pub Early : ℕ → Type 0
  Early a = (a ≡ start) ⊎ ((1 ≤ number_in rounds a) × (number_in rounds a ≤ last))

  -- where a rule is that waits for the atom: its head is taken, or the rounds up to the last did not take the atom, which is one of its positive atoms, or the rules of the atom are still to be asked
  abbrev pub Placed : (ℕ → ℕ) → ℕ → ℕ → Rule → Type 0
  Placed coming now atom r =
      (number_in rounds r.head ≢ 0)
      ⊎ (((i : ℕ) × (slice_get r.positive i ≡ Some atom) × (taken p set last atom ≡ false))
      ⊎ ((1 ≤ atom) × ((coming atom ≡ suc last) ⊎ (atom ≡ now))))

-- the rounds up to `last` are over; the rules of the atom `now` and the rule `asked` are being asked, where these are not 0
pub record Progress (p : Program) (set : Atoms) (last now asked : ℕ) (waiting coming position : ℕ → ℕ) (rounds : List ℕ) : Type 0 where
  pub sized : length rounds ≡ p.atoms
  pub numbers : (a : ℕ) → Numbered p set last rounds a
  pub begun : (k : ℕ) → 1 ≤ waiting k → Begun p set last (position k) (waiting k) k
  pub asked_begun : 1 ≤ asked → Begun p set last (position asked) now asked
  pub placed : (k : ℕ) (r : Rule) → rule_at p k ≡ Some r → supports set r.head r ≡ true → k ≢ asked → Placed p set last rounds coming now (waiting k) r
  pub asked_free : waiting asked ≡ 0
  pub now_early : 1 ≤ now → Early p set last rounds now
  pub coming_early : (a : ℕ) → coming a ≡ suc last → Early p set last rounds a
  pub coming_bounded : (a : ℕ) → coming a ≤ suc (suc last)
  pub coming_taken : (a : ℕ) → coming a ≡ suc (suc last) → number_in rounds a ≡ suc last
  pub taken_coming : (a : ℕ) → number_in rounds a ≡ suc last → coming a ≡ suc (suc last)
  pub coming_free : (a : ℕ) → a ≤ p.atoms → number_in rounds a ≡ 0 → coming a ≡ 0

-- no rule waits, no atom's rules are due, and each rule stands at its first positive atom
pub record Idle (taking : Taking) : Type 0 where
  pub waits : (k : ℕ) → key_of taking.waiting k ≡ 0
  pub comes : (a : ℕ) → key_of taking.coming a ≡ 0
  pub stands : (k : ℕ) → number_in taking.positions k ≡ 0

-- the rules before k wait for the start, no other rule waits, the start alone is due, in the first round, and each rule stands at its first positive atom
pub record Begins (p : Program) (k : ℕ) (taking : Taking) : Type 0 where
  pub upto : k ≤ length p.rules + 1
  pub waits : (j : ℕ) → 1 ≤ j → j < k → key_of taking.waiting j ≡ start
  pub only : (j : ℕ) → 1 ≤ key_of taking.waiting j → (1 ≤ j) × (j < k)
  pub first : key_of taking.coming start ≡ 1
  pub others : (a : ℕ) → a ≢ start → key_of taking.coming a ≡ 0
  pub stands : (j : ℕ) → number_in taking.positions j ≡ 0

-- the same of what the code keeps
abbrev pub Under : Program → Atoms → ℕ → ℕ → ℕ → Taking → List ℕ → Type 0
Under p set last now asked taking rounds = Progress p set last now asked (key_of taking.waiting) (key_of taking.coming) (number_in taking.positions) rounds
