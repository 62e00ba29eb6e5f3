-- What is found of a plan, and how the list ends. Assumes nothing.
use Rattle.std.specs.Prelude.{◌≡◌, ℕ, cond, List, Ok, Err, Result, codes}
use Rattle.refusal.specs.declared.Refusal.{Refusal}
use Rattle.rules.specs.Program.{Program}
use Rattle.orders.specs.declared.kind.LevelKind.{LevelKind}
use Rattle.program.specs.Reading.{program_in}
use Rattle.certificate.specs.Reading.{stated_kind}
use Rattle.verdict.specs.declared.Verdict.{Verdict}
use Rattle.verdict.specs.declared.Verdict.TheVariants.{Broken, Unlevelled, Ungrounded, Accepted}
use Rattle.console.specs.Accepted.{StableFiles}
use Rattle.console.specs.Answer.{answer_for, known_kind}
use Rattle.checklist.specs.Top.{stopped_in}
use Rattle.checklist.specs.declared.Findings.{Findings}
use Rattle.checklist.specs.declared.Outcome.{Outcome}
use Rattle.checklist.specs.declared.Outcome.TheVariants.{Released, Stopped}

-- the kind of levels that the certificate states
abbrev pub by_program : List ℕ → Result Program Refusal → Result LevelKind Refusal
by_program certificate (Err e) = Err e
by_program certificate (Ok p) = known_kind (stated_kind p.atoms certificate)

-- a verdict, and the kind of its levels with what is found at their top
abbrev pub found : Result Verdict Refusal → Result LevelKind Refusal → Result Findings Refusal
found (Err e) kind = Err e
found (Ok v) (Err e) = Err e
found (Ok v) (Ok k) = Ok (record { kind = k; verdict = v; top_is_stopped = stopped_in k })

-- what is found of a program file and a certificate file
abbrev pub findings_for : List ℕ → List ℕ → Result Findings Refusal
findings_for program certificate = found (answer_for program certificate) (by_program certificate (program_in program))

-- the answer for the files, in what is found of them
abbrev pub answer_in : Result Findings Refusal → Result Verdict Refusal
answer_in (Ok f) = Ok f.verdict
answer_in (Err e) = Err e

-- only an accepted plan is released
abbrev pub by_verdict : Verdict → Outcome
by_verdict (Broken k) = Stopped
by_verdict (Unlevelled a) = Stopped
by_verdict (Ungrounded a) = Stopped
by_verdict (Accepted m) = Released

-- every point of the list is passed, or one is not
abbrev pub decided : Findings → Outcome
decided f = cond f.top_is_stopped (by_verdict f.verdict) Stopped

-- a plan whose files are refused is stopped
abbrev pub by_answer : Result Verdict Refusal → Outcome
by_answer (Ok v) = by_verdict v
by_answer (Err e) = Stopped

-- how the list ends for a program file and a certificate file
abbrev pub outcome_for : List ℕ → List ℕ → Outcome
outcome_for program certificate = by_answer (answer_for program certificate)

-- the files of a released plan are the encodings of a program and of claims, and the claimed atoms are a stable set of the program
abbrev pub ReleasesOnlyStableFiles : List ℕ → List ℕ → Outcome → Type 0
ReleasesOnlyStableFiles program certificate outcome = outcome ≡ Released → StableFiles program certificate

-- the word of each outcome
abbrev pub word_of : Outcome → List ℕ
word_of Released = codes "released"
word_of Stopped = codes "stopped"
