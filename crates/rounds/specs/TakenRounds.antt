-- What taking the rounds of a marked set answers, and what it leaves in the round table. Assumes nothing.
use Rattle.std.specs.Prelude.{ℕ, List, length, Ok, Err, Result}
use Rattle.refusal.specs.Tables.{both_checked, length_checked}
use Rattle.refusal.specs.declared.Refusal.{Refusal}
use Rattle.rules.specs.Program.{Program}
use Rattle.rules.specs.Stable.{Atoms}
use Rattle.marks.specs.Marks.{marked}
use Rattle.rankings.specs.Rounds.{round_of, rounds_needed}
use Rattle.tables.specs.Entries.{table_of}

-- how many rounds take an atom, and the round table
pub record TakenRounds : Type 0 where
  pub count : Result ℕ Refusal
  pub rounds : List ℕ

-- the tables of n atoms: the length of the marks, then that of the rounds
abbrev pub lengths_checked : ℕ → List ℕ → List ℕ → Result (Unit {0}) Refusal
lengths_checked n marks rounds = both_checked (length_checked n (length marks)) (length_checked n (length rounds))

-- where a table may be refused: the table then has the round of each atom, and 0 for each that no round takes
abbrev pub by_lengths : Program → Atoms → List ℕ → Result (Unit {0}) Refusal → TakenRounds
by_lengths p set rounds (Ok u) = record { count = Ok (rounds_needed p set); rounds = table_of (round_of p set) p.atoms }
by_lengths p set rounds (Err e) = record { count = Err e; rounds = rounds }

-- how many rounds take an atom, and the round table afterwards: the lengths of the marks and of the round table are checked first
abbrev pub all_taken : Program → List ℕ → List ℕ → TakenRounds
all_taken p marks rounds = by_lengths p (marked marks) rounds (lengths_checked p.atoms marks rounds)
