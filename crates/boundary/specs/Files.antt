-- What each call of the boundary answers for the bytes of a program file, and what it leaves. Assumes nothing.
use Rattle.std.specs.Prelude.{ℕ, Bool, cond, List, length, map, Ok, Err, Result, nat_lt}
use Rattle.refusal.specs.declared.Refusal.{Refusal}
use Rattle.rules.specs.Program.{Program}
use Rattle.program.specs.Reading.{program_in}
use Rattle.refutation.specs.Refute.{refuted}
use Rattle.verdict.specs.Judge.{judged}
use Rattle.settlement.specs.Settle.{settled}
use Rattle.orders.specs.Numbers.{less, number, number_rungs}
use Rattle.orders.specs.Routes.{inside, route_rung, route_rungs}
use Rattle.boundary.specs.declared.entries.Stored.{Stored}
use Rattle.boundary.specs.declared.answers.Told.{Told}
use Rattle.boundary.specs.Answers.{worded, refusal_told, refutation_told, settlement_told, verdict_told}
use Rattle.boundary.specs.Entries.{number_for, number_told, route_for, route_told, entry_for, stored_for}

-- what refute answers for a program that may be refused
abbrev pub refuted_by : List ℕ → Result Program Refusal → Told
refuted_by marks (Ok p) = refutation_told (refuted p marks)
refuted_by marks (Err e) = refusal_told e

-- what refute answers for a program file
abbrev pub refuted_file : List ℕ → List ℕ → Told
refuted_file program marks = refuted_by marks (program_in program)

-- an answer for so many entries: the boundary takes at most 4,097
abbrev pub by_length : {X : Type 0} → (Told → X) → X → ℕ → X
by_length refused answer many = cond (nat_lt 4097 many) (refused (worded 11 many)) answer

module _ {L : Type 0} (below : L → L → Bool) (level : ℕ → L) where
  -- what judge answers for a program
  abbrev pub judged_stored : Program → List ℕ → List Stored → Told
  judged_stored p marks stored = verdict_told (judged below p marks (map (entry_for level) stored))

-- what judge answers for a program, by routes or by numbers
abbrev pub judged_kind : Bool → Program → List ℕ → List Stored → Told
judged_kind routes p marks stored = cond routes (judged_stored inside route_for p marks stored) (judged_stored less number_for p marks stored)

-- what judge answers for a program that may be refused
abbrev pub judged_by : Bool → List ℕ → List Stored → Result Program Refusal → Told
judged_by routes marks stored (Ok p) = judged_kind routes p marks stored
judged_by routes marks stored (Err e) = refusal_told e

-- what judge answers for a program file
abbrev pub judged_file : List ℕ → Bool → List ℕ → List Stored → Told
judged_file program routes marks stored = by_length (λ t. t) (judged_by routes marks stored (program_in program)) (length stored)

-- what settle leaves: its answer, and the three tables
pub record Left : Type 0 where
  pub answer : Told
  pub marks : List ℕ
  pub stored : List Stored
  pub rounds : List ℕ

-- an answer that leaves every table as it was
abbrev pub unchanged : List ℕ → List Stored → List ℕ → Told → Left
unchanged marks stored rounds answer = record { answer = answer; marks = marks; stored = stored; rounds = rounds }

module _ {L : Type 0} (count : ℕ) (rung : ℕ → L) (level : ℕ → L) (number : L → ℕ) where
  -- what settle leaves for a program
  abbrev pub settled_stored : Program → List ℕ → List Stored → List ℕ → Left
  settled_stored p marks stored rounds = record {
    answer = settlement_told (settled count rung p marks (map (entry_for level) stored) rounds).answer;
    marks = (settled count rung p marks (map (entry_for level) stored) rounds).marks;
    stored = map (stored_for number) (settled count rung p marks (map (entry_for level) stored) rounds).entries;
    rounds = (settled count rung p marks (map (entry_for level) stored) rounds).rounds;
  }

-- what settle leaves for a program, by routes or by numbers
abbrev pub settled_kind : Bool → Program → List ℕ → List Stored → List ℕ → Left
settled_kind routes p marks stored rounds = cond routes (settled_stored route_rungs route_rung route_for route_told p marks stored rounds) (settled_stored number_rungs number number_for number_told p marks stored rounds)

-- what settle leaves for a program that may be refused
abbrev pub settled_by : Bool → List ℕ → List Stored → List ℕ → Result Program Refusal → Left
settled_by routes marks stored rounds (Ok p) = settled_kind routes p marks stored rounds
settled_by routes marks stored rounds (Err e) = unchanged marks stored rounds (refusal_told e)

-- what settle leaves for a program file
abbrev pub settled_file : List ℕ → Bool → List ℕ → List Stored → List ℕ → Left
settled_file program routes marks stored rounds = by_length (unchanged marks stored rounds) (settled_by routes marks stored rounds (program_in program)) (length stored)
