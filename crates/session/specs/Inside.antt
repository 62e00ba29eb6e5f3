-- What judge and refute answer while a trial is open. Assumes nothing.
use Rattle.std.specs.Prelude.{ℕ, Bool, Ok, Err, Result}
use Rattle.refusal.specs.declared.Refusal.{Refusal}
use Rattle.refutation.specs.Refute.{refuted}
use Rattle.refutation.specs.declared.Refutation.{Refutation}
use Rattle.rules.specs.Program.{Program}
use Rattle.marks.specs.Calls.{named_checked}
use Rattle.verdict.specs.Judge.{judged}
use Rattle.verdict.specs.declared.Verdict.{Verdict}
use Rattle.session.specs.Run.{Tables, tried}
use Rattle.session.specs.declared.inside.Tried.{Tried}

-- the refusal of asking for a trial, else that of judge, else that of refute, else both answers
abbrev pub both_told : Result (Unit {0}) Refusal → Result Verdict Refusal → Result Refutation Refusal → Result Tried Refusal
both_told (Err e) verdict refutation = Err e
both_told (Ok u) (Err e) refutation = Err e
both_told (Ok u) (Ok v) (Err e) = Err e
both_told (Ok u) (Ok v) (Ok r) = Ok (record { verdict = v; refutation = r })

-- what judge and refute answer on these tables, while a trial of the atom a is open
abbrev pub told_inside : {L : Type 0} → (L → L → Bool) → ℕ → (ℕ → L) → Program → Tables L → ℕ → Result Tried Refusal
told_inside below count rung p t a =
    let inside = tried below count rung p t a in
    both_told (named_checked p.atoms t.marks a) (judged below p inside.marks inside.entries) (refuted p inside.marks)
