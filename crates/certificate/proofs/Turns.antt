-- One turn of counting the records: what is left gives the answer. Assumes nothing.
use Rattle.std.proofs.Common.{◌≡◌, ℕ, zero, suc, ◌+◌, ◌-◌, ◌<◌, ◌≤◌, List, ◌∷◌, length, drop, Some, None, Ok, Err, Option, Result, unwrap_or, sym, refl, ap, ◌∙◌, add-zero, arith}
use Rattle.refusal.specs.declared.Reason.{Reason}
use Rattle.refusal.specs.declared.Reason.TheVariants.{RecordCount}
use Rattle.refusal.specs.declared.Refusal.{Refusal}
use Rattle.records.specs.Words.{word_at}
use Rattle.certificate.specs.Reading.{refusal_at, opened, claim_of, atom_fault, checked, ended, after_end, after_claim, by_fault, next_record, claims_from}
use Rattle.certificate.specs.declared.Claim.{Claim}
use Rattle.certificate.proofs.Claims.{more, claims_by}

-- the number of claims, where `count` stand before these
abbrev pub counted_from : {L : Type 0} → ℕ → Result (List (Claim L)) Refusal → Result ℕ Refusal
counted_from count (Ok cs) = Ok (count + length cs)
counted_from count (Err e) = Err e

-- the claims that were read are counted, and those that `rest` holds give the answer
pub record SoFar {L : Type 0} (width : ℕ) (decode : List ℕ → L) (n count last : ℕ) (rest : List ℕ) (place : ℕ) (answer : Result ℕ Refusal) : Type 0 where
  pub gives : counted_from count (claims_from width decode (n - count) n last rest place) ≡ answer

module _ {L : Type 0} (width : ℕ) (decode : List ℕ → L) where
  counted_more : (count : ℕ) (c : Claim L) (claims : Result (List (Claim L)) Refusal) → counted_from count (after_claim width decode c claims) ≡ counted_from (count + 1) claims
  counted_more count c (Err e) = refl
  counted_more count c (Ok cs) = let same : count + length (c ∷ cs) ≡ (count + 1) + length cs = omega arith in ap Ok same

  fault_refused : (place : ℕ) (after : Result (List (Claim L)) Refusal) (e : Refusal) (o : Option Reason) → Err e ≡ checked place o → by_fault width decode place after o ≡ Err e
  fault_refused place after e None is = cc
  fault_refused place after e (Some why) is = let same : refusal_at why place ≡ e = cc in ap Err same

  fault_passed : (place : ℕ) (after : Result (List (Claim L)) Refusal) (u : Unit {0}) (o : Option Reason) → Ok u ≡ checked place o → by_fault width decode place after o ≡ after
  fault_passed place after u None is = refl
  fault_passed place after u (Some why) is = cc

-- w is the width as the code has it
module _ {L : Type 0} {width : ℕ} {decode : List ℕ → L} {n count last : ℕ} {rest : List ℕ} {place : ℕ} {answer : Result ℕ Refusal} (so_far : SoFar width decode n count last rest place answer) {w : ℕ} (sized : w ≡ width) where
  -- the answer, by the record that stands here
  by_record : (room : ℕ) → n - count ≡ room → (o : Result (Option ℕ) Refusal) → o ≡ opened w rest place
      → counted_from count (next_record width decode n last rest place (more width decode n last rest place room) o) ≡ answer
  by_record room is o here =
      ap (counted_from count) (sym (claims_by width decode n last rest place room o (sym (here ∙ ap (λ v. opened v rest place) sized))))
      ∙ ap (λ m. counted_from count (claims_from width decode m n last rest place)) (sym is)
      ∙ so_far.gives

  pub turn_refused : (e : Refusal) → Err e ≡ opened w rest place → Err e ≡ answer
  turn_refused e is = by_record (n - count) refl (Err e) is

  pub turn_end_refused : (e : Refusal) → Ok None ≡ opened w rest place → Err e ≡ ended rest place → Err e ≡ answer
  turn_end_refused e is bad = ap (λ r. counted_from count (after_end width decode r)) bad ∙ by_record (n - count) refl (Ok None) is

  pub turn_end : (u : Unit {0}) → Ok None ≡ opened w rest place → Ok u ≡ ended rest place → Ok count ≡ answer
  turn_end u is good = ap Ok (sym (add-zero count)) ∙ ap (λ r. counted_from count (after_end width decode r)) good ∙ by_record (n - count) refl (Ok None) is

  -- `atom` is the atom of the claim that stands here
  module _ (size : ℕ) (is : Ok (Some size) ≡ opened w rest place) (atom : ℕ) (atom_is : atom ≡ unwrap_or (word_at rest 4) 0) where
    by_claim : (room : ℕ) → n - count ≡ room → counted_from count (by_fault width decode place (more width decode n last rest place room size) (atom_fault n last atom)) ≡ answer
    by_claim room left = ap (λ a. counted_from count (by_fault width decode place (more width decode n last rest place room size) (atom_fault n last a))) atom_is ∙ by_record room left (Ok (Some size)) is

    pub turn_fault : (e : Refusal) → Err e ≡ checked place (atom_fault n last atom) → Err e ≡ answer
    turn_fault e bad = ap (counted_from count) (sym (fault_refused width decode place (more width decode n last rest place (n - count) size) e (atom_fault n last atom) bad)) ∙ by_claim (n - count) refl

    module _ (u : Unit {0}) (good : Ok u ≡ checked place (atom_fault n last atom)) where
      by_passed : (room : ℕ) → n - count ≡ room → counted_from count (more width decode n last rest place room size) ≡ answer
      by_passed room left = ap (counted_from count) (sym (fault_passed width decode place (more width decode n last rest place room size) u (atom_fault n last atom) good)) ∙ by_claim room left

      pub turn_full : n ≤ count → Err (refusal_at RecordCount place) ≡ answer
      turn_full full = by_passed zero (omega arith)

      pub turn_claim : count < n → SoFar width decode n (count + 1) atom (drop (4 + size) rest) (place + (4 + size)) answer
      turn_claim room = record {
        gives = ap (λ a. counted_from (count + 1) (claims_from width decode (n - (count + 1)) n a (drop (4 + size) rest) (place + (4 + size)))) atom_is
            ∙ sym (counted_more width decode count (claim_of width decode rest size) (claims_from width decode (n - (count + 1)) n (claim_of width decode rest size).atom (drop (4 + size) rest) (place + (4 + size))))
            ∙ by_passed (suc (n - (count + 1))) (omega arith);
      }
