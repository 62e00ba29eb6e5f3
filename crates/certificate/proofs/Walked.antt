-- The claims that stand from a place on, one by one, and that they are those of a certificate that is read. Assumes nothing.
use Rattle.std.proofs.Common.{◌≡◌, ℕ, zero, suc, ◌+◌, ◌<◌, ◌≤◌, true, false, cond, eqb, List, [], ◌∷◌, length, drop, Some, None, Ok, Err, Option, Result, sym, refl, ap, ◌∙◌, ⊎_elim, arith, length-drop}
use Rattle.std.proofs.lemmas.List.{drop-drop}
use Rattle.std.specs.Result.{IfOk}
use Rattle.refusal.specs.declared.Reason.TheVariants.{LevelKind}
use Rattle.refusal.specs.declared.Refusal.{Refusal}
use Rattle.certificate.specs.Reading.{refuse, opened, claim_of, step_at, claim_at, stated_kind, by_kind, claims_from, claims_in}
use Rattle.certificate.specs.Standing.{by_step, first_standing, standing}
use Rattle.certificate.specs.declared.Claim.{Claim}
use Rattle.certificate.specs.declared.Step.{Step}
use Rattle.certificate.proofs.Claims.{Ends, Goes, turn}
use Rattle.certificate.proofs.Standing.{claim_here}

module _ {L : Type 0} (width : ℕ) (decode : List ℕ → L) (bytes : List ℕ) where
  -- the next record begins further on, and within the file
  record Further (place : ℕ) (step : Step L) : Type 0 where
    on : place < step.next
    within : step.next ≤ length bytes

  further_by : (place : ℕ) (step : Step L) (o : Result (Option ℕ) Refusal) → opened width (drop place bytes) place ≡ o → step_at width decode bytes place o ≡ Some step → Further place step
  further_by place step (Err e) here found = cc
  further_by place step (Ok None) here found = cc
  further_by place step (Ok (Some size)) here found =
      let whole = (claim_here width (drop place bytes) place size here).whole in
      let next : place + (4 + size) ≡ step.next = cc in
      record { on = omega arith; within = omega (arith, simp length-drop at whole) }

  further : (place : ℕ) (step : Step L) → claim_at width decode bytes place ≡ Some step → Further place step
  further place step = further_by place step (opened width (drop place bytes) place) refl

  -- as many records as there are bytes left are enough
  enough_by : (m k place : ℕ) (o : Option (Step L)) → claim_at width decode bytes place ≡ o → length bytes ≤ place + m → length bytes ≤ place + k
      → first_standing width decode m bytes place ≡ first_standing width decode k bytes place
  unfolding first_standing
  enough_by zero zero place o is long long' = refl
  enough_by (suc m) zero place None is long long' = ap (by_step (first_standing width decode m bytes)) is
  enough_by zero (suc k) place None is long long' = sym (ap (by_step (first_standing width decode k bytes)) is)
  enough_by (suc m) (suc k) place None is long long' = ap (by_step (first_standing width decode m bytes)) is ∙ sym (ap (by_step (first_standing width decode k bytes)) is)
  enough_by (suc m) zero place (Some step) is long long' = let f = further place step is in absurd (omega arith)
  enough_by zero (suc k) place (Some step) is long long' = let f = further place step is in absurd (omega arith)
  enough_by (suc m) (suc k) place (Some step) is long long' =
      let f = further place step is in
      ap (by_step (first_standing width decode m bytes)) is
      ∙ ap (λ t. step.claim ∷ t) (enough_by m k step.next (claim_at width decode bytes step.next) refl (omega arith) (omega arith))
      ∙ sym (ap (by_step (first_standing width decode k bytes)) is)

  one_more : (place : ℕ) → standing width decode bytes place ≡ first_standing width decode (suc (length bytes)) bytes place
  one_more place = enough_by (length bytes) (suc (length bytes)) place (claim_at width decode bytes place) refl (omega arith) (omega arith)

  pub stands_none : (place : ℕ) → claim_at width decode bytes place ≡ None → standing width decode bytes place ≡ []
  unfolding first_standing
  stands_none place is = one_more place ∙ ap (by_step (first_standing width decode (length bytes) bytes)) is

  pub stands_some : (place : ℕ) (step : Step L) → claim_at width decode bytes place ≡ Some step → standing width decode bytes place ≡ step.claim ∷ standing width decode bytes step.next
  unfolding first_standing
  stands_some place step is = one_more place ∙ ap (by_step (first_standing width decode (length bytes) bytes)) is

  -- THE CLAIMS THAT ARE READ

  module _ (room n last place : ℕ) (claims : List (Claim L)) where
    read_end : Ends width decode n last (drop place bytes) place claims → standing width decode bytes place ≡ claims
    read_end e = stands_none place (ap (step_at width decode bytes place) e.is) ∙ sym e.none

    read_claim : (g : Goes width decode n last (drop place bytes) place room claims)
        → (claims_from width decode g.room' n (claim_of width decode (drop place bytes) g.size).atom (drop (place + (4 + g.size)) bytes) (place + (4 + g.size)) ≡ Ok g.claims'
        → standing width decode bytes (place + (4 + g.size)) ≡ g.claims') → standing width decode bytes place ≡ claims
    read_claim g more =
        let next = place + (4 + g.size) in
        let claim = claim_of width decode (drop place bytes) g.size in
        stands_some place (record { claim = claim; next = next }) (ap (step_at width decode bytes place) g.is)
        ∙ ap (λ t. claim ∷ t) (more (ap (λ t. claims_from width decode g.room' n claim.atom t next) (sym (drop-drop (4 + g.size) place bytes)) ∙ g.after))
        ∙ sym g.first

  read_from : (many room n last place : ℕ) (claims : List (Claim L)) → length bytes ≤ place + many → claims_from width decode room n last (drop place bytes) place ≡ Ok claims
      → standing width decode bytes place ≡ claims
  read_from zero room n last place claims long read =
      ⊎_elim (read_end room n last place claims)
      (λ (g : Goes width decode n last (drop place bytes) place room claims). let f = further place _ (ap (step_at width decode bytes place) g.is) in absurd (omega arith))
      (turn width decode n last (drop place bytes) place room claims read)
  read_from (suc many) room n last place claims long read =
      ⊎_elim (read_end room n last place claims)
      (λ (g : Goes width decode n last (drop place bytes) place room claims).
      read_claim room n last place claims g (read_from many g.room' n (claim_of width decode (drop place bytes) g.size).atom (place + (4 + g.size)) g.claims' (omega arith)))
      (turn width decode n last (drop place bytes) place room claims read)

  read_by_kind : (n kind : ℕ) (stated : Result ℕ Refusal) → IfOk (by_kind width decode n kind bytes stated) (λ claims. standing width decode bytes 8 ≡ claims)
  read_by_kind n kind (Err e) = tt
  read_by_kind n kind (Ok k) =
      elim (eqb k kind) as (λ b. IfOk (cond b (claims_from width decode n n 0 (drop 8 bytes) 8) (refuse LevelKind 0)) (λ claims. standing width decode bytes 8 ≡ claims)) [
        | true ↦ read (claims_from width decode n n 0 (drop 8 bytes) 8) refl
        | false ↦ tt
      ]
    where
      read : (r : Result (List (Claim L)) Refusal) → claims_from width decode n n 0 (drop 8 bytes) 8 ≡ r → IfOk r (λ claims. standing width decode bytes 8 ≡ claims)
      read (Ok claims) is = read_from (length bytes) n n 0 8 claims (omega arith) is
      read (Err e) is = tt

  -- after the head stand the claims of a certificate that is read
  pub claims_read : (place n kind : ℕ) → place ≡ 8 → IfOk (claims_in width decode n kind bytes) (λ claims. standing width decode bytes place ≡ claims)
  claims_read place n kind is = rw is (read_by_kind n kind (stated_kind n bytes))
