-- The tables of a survey that is made say what its claims say. Assumes nothing.
use Rattle.std.proofs.Common.{◌≡◌, ℕ, Bool, true, false, ◌||◌, eqb, List, [], length, replicate, Ok, Err, Result, refl, ap, ◌∙◌, None, Option}
use Rattle.std.proofs.lemmas.List.{length-replicate}
use Rattle.std.proofs.lemmas.Bool.{eq-eqb}
use Rattle.refusal.specs.Tables.{length_checked}
use Rattle.refusal.proofs.Checks.{both_passed, length_passed}
use Rattle.refusal.specs.declared.Refusal.{Refusal}
use Rattle.rules.specs.Program.{within}
use Rattle.rules.specs.Tests.{all, member}
use Rattle.certificate.specs.Claims.{atoms_of, LawfulClaims}
use Rattle.certificate.specs.Reading.{claims_in}
use Rattle.certificate.specs.declared.Claim.{Claim}
use Rattle.survey.specs.Made.{MadeFrom}
use Rattle.survey.specs.Making.{fitting, allowed, claims_for, claims_or_none, made_marks, made_entries}
use Rattle.survey.proofs.Lawful.{lawful_in}
use Rattle.survey.proofs.Levelled.{length-with_levels, level_with_levels, none_levelled}
use Rattle.survey.proofs.Marked.{length-with_claims, marked-with_claims, none_marked}

or_none : (x y : Bool) → y ≡ false → (x || y) ≡ x
or_none true y is = refl
or_none false y is = is

module _ {L : Type 0} where
  pub length-made_marks : (many : ℕ) (claims : List (Claim L)) → length (made_marks many claims) ≡ many
  length-made_marks many claims = length-with_claims claims (replicate many 0) ∙ length-replicate many 0

  pub length-made_entries : (many : ℕ) (claims : List (Claim L)) → length (made_entries many claims) ≡ many
  length-made_entries many claims = length-with_levels claims (replicate many None) ∙ length-replicate many None

  pub made_from_lawful : (n : ℕ) (claims : List (Claim L)) → LawfulClaims n claims → MadeFrom claims (made_marks n claims) (made_entries n claims)
  made_from_lawful n claims lawful = record {
    marked_are_claimed = λ a.
        marked-with_claims claims (replicate n 0) (ap (λ m. all (within m) (atoms_of claims)) (length-replicate n 0) ∙ lawful.known) a
        ∙ or_none (member a (atoms_of claims)) _ (none_marked n a);
    levels_are_claimed = λ a.
        level_with_levels claims (replicate n None) (ap (λ m. all (within m) (atoms_of claims)) (length-replicate n None) ∙ lawful.known) lawful.ascends a (none_levelled n a);
  }

  -- tables of any lengths, where nothing is claimed
  pub made_from_none : (many others : ℕ) → MadeFrom {L = L} [] (made_marks {L = L} many []) (made_entries others [])
  made_from_none many others = record { marked_are_claimed = none_marked many; levels_are_claimed = none_levelled others }

  -- what is said of tables holds of equal ones
  pub made_as : {claims : List (Claim L)} {marks marks' : List ℕ} {entries entries' : List (Option L)} → MadeFrom claims marks entries → marks' ≡ marks → entries' ≡ entries → MadeFrom claims marks' entries'
  made_as made m e = record {
    marked_are_claimed = λ a. rw m (made.marked_are_claimed a);
    levels_are_claimed = λ a. rw e (made.levels_are_claimed a);
  }

-- tables of those lengths, made with what a reader answers, say what it answers
abbrev pub MadeOf : {L : Type 0} → Result (List (Claim L)) Refusal → ℕ → ℕ → Type 0
MadeOf r marks entries = MadeFrom (claims_or_none r) (made_marks marks (claims_or_none r)) (made_entries entries (claims_or_none r))

module _ {L : Type 0} (width : ℕ) (decode : List ℕ → L) (n kind : ℕ) (bytes : List ℕ) where
  -- TABLES OF ANY LENGTHS

  made_by_claims : (r : Result (List (Claim L)) Refusal) → claims_in width decode n kind bytes ≡ r → MadeOf r n n
  made_by_claims (Ok claims) is = made_from_lawful n claims (lawful_in width decode n kind bytes claims is)
  made_by_claims (Err e) is = made_from_none n n

  module _ (marks entries : ℕ) where
    made_by_fit : (fit : Result (Unit {0}) Refusal) → fitting n marks entries ≡ fit → MadeOf (allowed fit (claims_in width decode n kind bytes)) marks entries
    made_by_fit (Err e) is = made_from_none marks entries
    made_by_fit (Ok u) is =
        let claims = claims_or_none (claims_in width decode n kind bytes) in
        let fits = both_passed (length_checked n marks) (length_checked n entries) is in
        made_as (made_by_claims (claims_in width decode n kind bytes) refl) (ap (λ m. made_marks m claims) (length_passed n marks fits.0)) (ap (λ m. made_entries m claims) (length_passed n entries fits.1))

    -- whether or not a survey can be made
    pub made_for : MadeOf (claims_for width decode n kind marks entries bytes) marks entries
    made_for = made_by_fit (fitting n marks entries) refl

    pub claims_for_fitting : marks ≡ n → entries ≡ n → claims_for width decode n kind marks entries bytes ≡ claims_in width decode n kind bytes
    claims_for_fitting m e = let same : eqb n n ≡ true = eq-eqb n n refl in rw (m, e, same)

  -- TABLES THAT FIT

  -- what is known where the bytes hold claims
  pub record Makes (claims : List (Claim L)) : Type 0 where
    pub permitted : claims_for width decode n kind n n bytes ≡ Ok claims
    pub says : MadeFrom claims (made_marks n claims) (made_entries n claims)
    pub as_many_marks : length (made_marks n claims) ≡ n
    pub as_many_entries : length (made_entries n claims) ≡ n

  pub makes : (claims : List (Claim L)) → claims_in width decode n kind bytes ≡ Ok claims → Makes claims
  makes claims is = record {
    permitted = claims_for_fitting n n refl refl ∙ is;
    says = made_by_claims (Ok claims) is;
    as_many_marks = length-made_marks n claims;
    as_many_entries = length-made_entries n claims;
  }
