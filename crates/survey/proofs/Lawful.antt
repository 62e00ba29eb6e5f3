-- The claims that are read from a certificate are lawful. Assumes nothing.
use Rattle.std.proofs.Common.{◌≡◌, ℕ, zero, suc, ◌+◌, true, eqb, ltb, List, [], ◌∷◌, drop, Ok, Err, Result, sym, refl, ap, ◌∙◌, subst, ⊎_elim, arith}
use Rattle.std.proofs.lemmas.Bool.{and_parts, and_from}
use Rattle.refusal.specs.Results.{err_not_ok, passed}
use Rattle.refusal.specs.declared.Refusal.{Refusal}
use Rattle.rules.specs.Program.{within, ascends_above, ascending}
use Rattle.rules.specs.Tests.{all}
use Rattle.certificate.specs.Claims.{atoms_of, LawfulClaims}
use Rattle.certificate.specs.Reading.{claim_of, claims_from, stated_kind, by_kind, claims_in}
use Rattle.certificate.specs.declared.Claim.{Claim}
use Rattle.certificate.proofs.Claims.{Ends, Goes, turn}
use Rattle.certificate.proofs.Standing.{sound_so}

pub ascending_from_above : (low : ℕ) (atoms : List ℕ) → ascends_above low atoms ≡ true → ascending atoms ≡ true
ascending_from_above low [] is = refl
ascending_from_above low (a ∷ rest) is = (and_parts (ltb low a) (ascends_above a rest) is).1

module _ {L : Type 0} (width : ℕ) (decode : List ℕ → L) (n : ℕ) where
  abbrev LawfulAbove : ℕ → List (Claim L) → Type 0
  LawfulAbove low claims = (all (within n) (atoms_of claims) ≡ true) × (ascends_above low (atoms_of claims) ≡ true)

  ends_lawful : (last : ℕ) (rest : List ℕ) (place : ℕ) (claims : List (Claim L)) → Ends width decode n last rest place claims → LawfulAbove last claims
  ends_lawful last rest place claims end = subst (LawfulAbove last) (sym end.none) (refl, refl)

  goes_lawful : (room last : ℕ) (rest : List ℕ) (place : ℕ) (claims : List (Claim L)) (goes : Goes width decode n last rest place room claims)
      → LawfulAbove (claim_of width decode rest goes.size).atom goes.claims' → LawfulAbove last claims
  goes_lawful room last rest place claims goes later =
      let atom = (claim_of width decode rest goes.size).atom in
      let sound = sound_so n last atom goes.sound in
      subst (LawfulAbove last) (sym goes.first)
      (and_from (within n atom) (all (within n) (atoms_of goes.claims')) sound.0 later.0, and_from (ltb last atom) (ascends_above atom (atoms_of goes.claims')) sound.1 later.1)

  lawful_from : (room last : ℕ) (rest : List ℕ) (place : ℕ) (claims : List (Claim L)) → claims_from width decode room n last rest place ≡ Ok claims → LawfulAbove last claims
  lawful_from zero last rest place claims is =
      ⊎_elim (ends_lawful last rest place claims) (λ goes. absurd (omega (arith, goes.roomy))) (turn width decode n last rest place zero claims is)
  lawful_from (suc room) last rest place claims is =
      ⊎_elim (ends_lawful last rest place claims)
      (λ (goes : Goes width decode n last rest place (suc room) claims).
      let size = goes.size in
      let atom = (claim_of width decode rest size).atom in
      let same : goes.room' ≡ room = omega (arith, goes.roomy) in
      let found = ap (λ m. claims_from width decode m n atom (drop (4 + size) rest) (place + (4 + size))) (sym same) ∙ goes.after in
      goes_lawful (suc room) last rest place claims goes (lawful_from room atom (drop (4 + size) rest) (place + (4 + size)) goes.claims' found))
      (turn width decode n last rest place (suc room) claims is)

  module _ (kind : ℕ) (bytes : List ℕ) (claims : List (Claim L)) where
    lawful_by_kind : (stated : Result ℕ Refusal) → by_kind width decode n kind bytes stated ≡ Ok claims → LawfulClaims n claims
    lawful_by_kind (Err e) is = absurd (err_not_ok is)
    lawful_by_kind (Ok k) is =
        let read = (passed (eqb k kind) err_not_ok is).1 in
        let both = lawful_from n 0 (drop 8 bytes) 8 claims read in
        record { known = both.0; ascends = ascending_from_above 0 (atoms_of claims) both.1 }

    pub lawful_in : claims_in width decode n kind bytes ≡ Ok claims → LawfulClaims n claims
    lawful_in is = lawful_by_kind (stated_kind n bytes) is
