-- What judge answers. Assumes nothing.
use Rattle.std.specs.Prelude.{◌≡◌, ℕ, Bool, false, not, ◌&&◌, List, ◌++◌, length, is_some, Some, None, Ok, Err, codes, decimal, Option, Result}
use Rattle.refusal.specs.Tables.{both_checked, length_checked}
use Rattle.refusal.specs.declared.Refusal.{Refusal}
use Rattle.rules.specs.Program.{Program}
use Rattle.rules.specs.Stable.{Atoms, Stable, supports_with}
use Rattle.rules.specs.Tests.{any, lowest, tally}
use Rattle.levels.specs.Table.{level_of}
use Rattle.marks.specs.Calls.{bytes_checked}
use Rattle.marks.specs.Marks.{marked, lowest_unlawful}
use Rattle.support.specs.Rules.{lowest_broken}
use Rattle.verdict.specs.declared.Verdict.{Verdict}
use Rattle.verdict.specs.declared.Verdict.TheVariants.{Broken, Unlevelled, Ungrounded, Accepted}

-- the word of each verdict
abbrev pub word_of : Verdict → List ℕ
word_of (Broken k) = codes "broken"
word_of (Unlevelled a) = codes "unlevelled"
word_of (Ungrounded a) = codes "ungrounded"
word_of (Accepted m) = codes "accepted"

-- the number of each verdict: a rule, an atom, an atom, how many atoms
abbrev pub number_of : Verdict → ℕ
number_of (Broken k) = k
number_of (Unlevelled a) = a
number_of (Ungrounded a) = a
number_of (Accepted m) = m

-- what is printed of a verdict: its word and its number
abbrev pub text_of : Verdict → List ℕ
text_of v = word_of v ++ (codes " " ++ decimal (number_of v))

-- the tables of n atoms, with a level table of `size` entries: the length of the marks, that of the levels, then the mark bytes
abbrev pub tables_checked : ℕ → List ℕ → ℕ → Result (Unit {0}) Refusal
tables_checked n marks size = both_checked (length_checked n (length marks)) (both_checked (length_checked n size) (bytes_checked (lowest_unlawful marks)))

-- what judge accepts is a stable set
abbrev pub AcceptsOnlyStable : Program → Atoms → Result Verdict Refusal → Type 0
AcceptsOnlyStable p set r = (m : ℕ) → r ≡ Ok (Accepted m) → Stable p set

module _ {L : Type 0} (below : L → L → Bool) where
  -- both levels are there, and the first is below the second
  abbrev pub both_below : Option L → Option L → Bool
  both_below None y = false
  both_below (Some x) None = false
  both_below (Some x) (Some y) = below x y

  -- b's level is below a's
  abbrev pub lower : List (Option L) → ℕ → ℕ → Bool
  lower entries a b = both_below (level_of entries b) (level_of entries a)

  -- a is in the set and has no level
  abbrev pub unlevelled : Atoms → List (Option L) → ℕ → Bool
  unlevelled set entries a = set a && not (is_some (level_of entries a))

  -- some rule supports a with all its positive atoms' levels below a's own
  abbrev pub grounded : Program → Atoms → List (Option L) → ℕ → Bool
  grounded p set entries a = any (supports_with (lower entries a) set a) p.rules

  -- a is in the set, and no rule supports it with all its positive atoms' levels below a's own
  abbrev pub ungrounded : Program → Atoms → List (Option L) → ℕ → Bool
  ungrounded p set entries a = set a && not (grounded p set entries a)

  -- where every atom of the set is levelled
  abbrev pub by_ground : Program → Atoms → List (Option L) → Option ℕ → Verdict
  by_ground p set entries (Some a) = Ungrounded a
  by_ground p set entries None = Accepted (tally set p.atoms)

  -- where no rule is broken
  abbrev pub by_levels : Program → Atoms → List (Option L) → Option ℕ → Verdict
  by_levels p set entries (Some a) = Unlevelled a
  by_levels p set entries None = by_ground p set entries (lowest (ungrounded p set entries) p.atoms)

  abbrev pub by_rules : Program → Atoms → List (Option L) → Option ℕ → Verdict
  by_rules p set entries (Some k) = Broken k
  by_rules p set entries None = by_levels p set entries (lowest (unlevelled set entries) p.atoms)

  -- the first that applies: a broken rule, an atom of the set without a level, an ungrounded atom, acceptance
  abbrev pub verdict : Program → Atoms → List (Option L) → Verdict
  verdict p set entries = by_rules p set entries (lowest_broken p set)

  -- where the tables may be refused
  abbrev pub by_tables : Program → Atoms → List (Option L) → Result (Unit {0}) Refusal → Result Verdict Refusal
  by_tables p set entries (Ok u) = Ok (verdict p set entries)
  by_tables p set entries (Err e) = Err e

  -- what judge answers: the lengths of the marks and of the levels are checked first, then the mark bytes
  abbrev pub judged : Program → List ℕ → List (Option L) → Result Verdict Refusal
  judged p marks entries = by_tables p (marked marks) entries (tables_checked p.atoms marks (length entries))
