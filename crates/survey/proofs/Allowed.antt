-- Where a survey can be made, it is made with the certificate's claims, and elsewhere with none. Assumes nothing.
use Rattle.std.proofs.Common.{◌≡◌, true, false, List, [], is_ok, Ok, Err, Result, refl, ap}
use Rattle.std.proofs.lemmas.Bool.{both_ways}
use Rattle.refusal.specs.declared.Refusal.{Refusal}
use Rattle.certificate.specs.declared.Claim.{Claim}
use Rattle.survey.specs.Making.{allowed, makeable, claims_or_none}

pub made_with : {L : Type 0} (fit : Result (Unit {0}) Refusal) (claims : Result (List (Claim L)) Refusal) (answer : Result (Unit {0}) Refusal)
    → answer ≡ makeable (allowed fit claims) → is_ok answer ≡ true → claims ≡ allowed fit claims
made_with (Ok u) claims answer is ok = refl
made_with (Err e) claims answer is ok = absurd (both_ways (is_ok answer) (ap is_ok is) ok)

pub made_without : {L : Type 0} (claims : Result (List (Claim L)) Refusal) (answer : Result (Unit {0}) Refusal) → answer ≡ makeable claims → is_ok answer ≡ false → claims_or_none claims ≡ []
made_without (Ok claims) answer is refused = absurd (both_ways (is_ok answer) refused (ap is_ok is))
made_without (Err e) answer is refused = refl
