-- The claims from a place on, by the record that stands there. Assumes nothing.
use Rattle.std.proofs.Common.{◌≡◌, ℕ, zero, suc, ◌+◌, ◌⊎◌, List, [], ◌∷◌, drop, Some, None, Ok, Err, Option, Result, sym, refl, ap, ◌∙◌, inl, inr, arith}
use Rattle.refusal.specs.declared.Reason.{Reason}
use Rattle.refusal.specs.declared.Reason.TheVariants.{RecordCount}
use Rattle.refusal.specs.declared.Refusal.{Refusal}
use Rattle.certificate.specs.Reading.{refuse, opened, claim_of, atom_fault, ended, after_end, after_claim, by_fault, next_record, claims_from}
use Rattle.certificate.specs.declared.Claim.{Claim}

module _ {L : Type 0} (width : ℕ) (decode : List ℕ → L) (n last : ℕ) (rest : List ℕ) (place : ℕ) where
  -- the claim of `size` bytes that stands here, and those after it
  abbrev pub with_rest : ℕ → ℕ → Result (List (Claim L)) Refusal
  with_rest room size = after_claim width decode (claim_of width decode rest size) (claims_from width decode room n (claim_of width decode rest size).atom (drop (4 + size) rest) (place + (4 + size)))

  -- the same, where there is room
  abbrev pub more : ℕ → ℕ → Result (List (Claim L)) Refusal
  more zero size = refuse RecordCount place
  more (suc room) size = with_rest room size

  pub claims_by : (room : ℕ) (o : Result (Option ℕ) Refusal) → opened width rest place ≡ o → claims_from width decode room n last rest place ≡ next_record width decode n last rest place (more room) o
  unfolding claims_from
  claims_by zero o is = ap (next_record width decode n last rest place (more zero)) is
  claims_by (suc room) o is = ap (next_record width decode n last rest place (more (suc room))) is

  -- claims are read from here: the end stands here, or a claim with more after it
  pub record Ends (claims : List (Claim L)) : Type 0 where
    pub none : claims ≡ []
    pub is : opened width rest place ≡ Ok None
    pub whole : ended rest place ≡ Ok tt

  pub record Goes (room : ℕ) (claims : List (Claim L)) : Type 0 where
    pub size : ℕ
    pub room' : ℕ
    pub claims' : List (Claim L)
    pub first : claims ≡ claim_of width decode rest size ∷ claims'
    pub roomy : room ≡ suc room'
    pub is : opened width rest place ≡ Ok (Some size)
    pub sound : atom_fault n last (claim_of width decode rest size).atom ≡ None
    pub after : claims_from width decode room' n (claim_of width decode rest size).atom (drop (4 + size) rest) (place + (4 + size)) ≡ Ok claims'

  abbrev pub Turn : ℕ → List (Claim L) → Type 0
  Turn room claims = Ends claims ⊎ Goes room claims

  ends : (claims : List (Claim L)) (o : Result (Unit {0}) Refusal) → opened width rest place ≡ Ok None → ended rest place ≡ o → after_end width decode o ≡ Ok claims → Ends claims
  ends claims (Ok tt) is whole found = record { none = cc; is = is; whole = whole }
  ends claims (Err e) is whole found = absurd (let z : ◌≡◌ {A = ℕ} 0 1 = cc in omega arith)

  goes_after : (room size : ℕ) (claims : List (Claim L)) (r : Result (List (Claim L)) Refusal) → opened width rest place ≡ Ok (Some size)
      → atom_fault n last (claim_of width decode rest size).atom ≡ None
      → claims_from width decode room n (claim_of width decode rest size).atom (drop (4 + size) rest) (place + (4 + size)) ≡ r
      → after_claim width decode (claim_of width decode rest size) r ≡ Ok claims → Goes (suc room) claims
  goes_after room size claims (Ok rest_of) is sound after found =
      record { size = size; room' = room; claims' = rest_of; first = cc; roomy = refl; is = is; sound = sound; after = after }
  goes_after room size claims (Err e) is sound after found = absurd (let z : ◌≡◌ {A = ℕ} 0 1 = cc in omega arith)

  goes : (room size : ℕ) (claims : List (Claim L)) (f : Option Reason) → opened width rest place ≡ Ok (Some size)
      → atom_fault n last (claim_of width decode rest size).atom ≡ f
      → by_fault width decode place (more room size) f ≡ Ok claims → Goes room claims
  goes room size claims (Some why) is sound found = absurd (let z : ◌≡◌ {A = ℕ} 0 1 = cc in omega arith)
  goes zero size claims None is sound found = absurd (let z : ◌≡◌ {A = ℕ} 0 1 = cc in omega arith)
  goes (suc room) size claims None is sound found = goes_after room size claims _ is sound refl found

  turn_by : (room : ℕ) (claims : List (Claim L)) (o : Result (Option ℕ) Refusal) → opened width rest place ≡ o → next_record width decode n last rest place (more room) o ≡ Ok claims → Turn room claims
  turn_by room claims (Err e) is found = absurd (let z : ◌≡◌ {A = ℕ} 0 1 = cc in omega arith)
  turn_by room claims (Ok None) is found = inl (ends claims _ is refl found)
  turn_by room claims (Ok (Some size)) is found = inr (goes room size claims _ is refl found)

  -- what stands here, where the claims from here on are read
  pub turn : (room : ℕ) (claims : List (Claim L)) → claims_from width decode room n last rest place ≡ Ok claims → Turn room claims
  turn room claims found = turn_by room claims (opened width rest place) refl (sym (claims_by room (opened width rest place) refl) ∙ found)
