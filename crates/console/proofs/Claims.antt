-- How a refusal of a file passes on to the answer. Assumes nothing.
use Rattle.std.proofs.Common.{◌≡◌, Bool, List, Ok, Err, Result, ap}
use Rattle.refusal.specs.declared.Refusal.{Refusal}
use Rattle.rules.specs.Program.{Program}
use Rattle.certificate.specs.declared.Claim.{Claim}
use Rattle.survey.specs.Making.{makeable}
use Rattle.console.specs.Answer.{judged_claims}

pub refused_claims : {L : Type 0} (below : L → L → Bool) (p : Program) (claims : Result (List (Claim L)) Refusal) (e : Refusal) → Err e ≡ makeable claims → Err e ≡ judged_claims below p claims
refused_claims below p (Ok cs) e is = absurd cc
refused_claims below p (Err x) e is = let same : e ≡ x = cc in ap Err same
