-- The claims in the records that stand from a place on, whatever else holds of the bytes. Assumes nothing.
use Rattle.std.specs.Prelude.{ℕ, zero, suc, List, [], ◌∷◌, length, Some, None, Option}
use Rattle.certificate.specs.Reading.{claim_at}
use Rattle.certificate.specs.declared.Claim.{Claim}
use Rattle.certificate.specs.declared.Step.{Step}
use Rattle.certificate.specs.declared.walk.Claims.{Claims}

-- the claim of a step, and those from the next place on
abbrev pub by_step : {L : Type 0} → (ℕ → List (Claim L)) → Option (Step L) → List (Claim L)
by_step more None = []
by_step more (Some step) = step.claim ∷ more step.next

module _ {L : Type 0} (width : ℕ) (decode : List ℕ → L) where
  -- the claims from a place on, as far as `many` records
  unfoldable pub first_standing : (many : ℕ) → List ℕ → ℕ → List (Claim L)
  first_standing zero bytes place = []
  first_standing (suc many) bytes place = by_step (λ next. first_standing many bytes next) (claim_at width decode bytes place)

  -- the claims from a place on: there are no more records than bytes
  abbrev pub standing : List ℕ → ℕ → List (Claim L)
  standing bytes place = first_standing (length bytes) bytes place

  -- the claims that a walk has before it
  abbrev pub claims_left : Claims L → List (Claim L)
  claims_left walk = standing walk.bytes.now walk.place
