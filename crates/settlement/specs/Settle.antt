-- What settle answers, and what it leaves in the marks, the levels and the rounds. Assumes nothing.
use Rattle.std.specs.Prelude.{ℕ, cond, List, ◌++◌, length, Some, None, Ok, Err, codes, decimal, Option, Result, ◌==◌, nat_lt}
use Rattle.refusal.specs.Refused.{refused}
use Rattle.refusal.specs.Tables.{both_checked, length_checked}
use Rattle.refusal.specs.declared.Reason.TheVariants.{Rounds}
use Rattle.refusal.specs.declared.Layer.TheVariants.{Survey}
use Rattle.refusal.specs.declared.Refusal.{Refusal}
use Rattle.rules.specs.Program.{Program}
use Rattle.rules.specs.Stable.{Atoms}
use Rattle.tables.specs.Entries.{table_of}
use Rattle.levels.specs.Table.{level_of}
use Rattle.marks.specs.Calls.{bytes_checked}
use Rattle.marks.specs.Marks.{byte_of, lowest_unlawful, marked, sifted}
use Rattle.rankings.specs.Rounds.{left_count, left_over, round_of, rounds_needed}
use Rattle.support.specs.Rules.{lowest_broken}
use Rattle.settlement.specs.declared.Settlement.{Settlement}
use Rattle.settlement.specs.declared.Settlement.TheVariants.{Broken, Ranked, Looped}

-- the word of each answer
abbrev pub word_of : Settlement → List ℕ
word_of (Broken k) = codes "broken"
word_of (Ranked k) = codes "ranked"
word_of (Looped m) = codes "looped"

-- the number of each answer: a rule, how many rounds, how many atoms
abbrev pub number_of : Settlement → ℕ
number_of (Broken k) = k
number_of (Ranked k) = k
number_of (Looped m) = m

-- what is printed of an answer: its word and its number
abbrev pub text_of : Settlement → List ℕ
text_of s = word_of s ++ (codes " " ++ decimal (number_of s))

-- what settle leaves: its answer, and the three tables
pub record Settled (L : Type 0) : Type 0 where
  pub answer : Result Settlement Refusal
  pub marks : List ℕ
  pub entries : List (Option L)
  pub rounds : List ℕ

-- the tables of n atoms, with a level table and a round table of those sizes: the lengths of the marks, of the levels and of the rounds, then the mark bytes
abbrev pub tables_checked : ℕ → List ℕ → ℕ → ℕ → Result (Unit {0}) Refusal
tables_checked n marks entries rounds =
    both_checked (length_checked n (length marks))
    (both_checked (length_checked n entries) (both_checked (length_checked n rounds) (bytes_checked (lowest_unlawful marks))))

module _ {L : Type 0} (count : ℕ) (rung : ℕ → L) (p : Program) (set : Atoms) (marks : List ℕ) (entries : List (Option L)) where
  -- the round of each atom, and 0 where none takes it
  abbrev pub all_rounds : List ℕ
  all_rounds = table_of (round_of p set) p.atoms

  -- the marks with each atom of the set that is left over doubted, and no other
  abbrev pub sifted_marks : List ℕ
  sifted_marks = table_of (λ a. sifted (left_over p set a) (byte_of marks a)) p.atoms

  -- the entries with the rung of its round for each atom of the set
  abbrev pub ranked_entries : List (Option L)
  ranked_entries = table_of (λ a. cond (set a) (Some (rung (round_of p set a))) (level_of entries a)) p.atoms

  -- where every atom of the set is taken, in k rounds
  abbrev pub by_rungs : ℕ → Settled L
  by_rungs k =
      cond (nat_lt count k)
      (record { answer = Err (refused Survey Rounds k); marks = marks; entries = entries; rounds = all_rounds })
      (record { answer = Ok (Ranked k); marks = marks; entries = ranked_entries; rounds = all_rounds })

  -- where no rule is broken, and so many atoms of the set are left over
  abbrev pub by_left : ℕ → Settled L
  by_left m =
      cond (m == 0)
      (by_rungs (rounds_needed p set))
      (record { answer = Ok (Looped m); marks = sifted_marks; entries = entries; rounds = all_rounds })

  module _ (rounds : List ℕ) where
    -- an answer that leaves every table as it is
    abbrev pub unchanged : Result Settlement Refusal → Settled L
    unchanged answer = record { answer = answer; marks = marks; entries = entries; rounds = rounds }

    abbrev pub by_rules : Option ℕ → Settled L
    by_rules (Some k) = unchanged (Ok (Broken k))
    by_rules None = by_left (left_count p set)

    -- where the tables may be refused
    abbrev pub by_tables : Result (Unit {0}) Refusal → Settled L
    by_tables (Ok u) = by_rules (lowest_broken p set)
    by_tables (Err e) = unchanged (Err e)

-- what settle leaves. The first that applies is its answer: a refusal of a table, a broken rule, a loop, a refusal for want of rungs, a ranking
abbrev pub settled : {L : Type 0} → ℕ → (ℕ → L) → Program → List ℕ → List (Option L) → List ℕ → Settled L
settled count rung p marks entries rounds = by_tables count rung p (marked marks) marks entries rounds (tables_checked p.atoms marks (length entries) (length rounds))
