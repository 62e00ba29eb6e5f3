-- Making a survey: whether it can be made, and what its tables then hold. Assumes nothing.
use Rattle.std.specs.Prelude.{ℕ, List, [], ◌∷◌, replicate, Ok, Err, Result, Some, None, Option}
use Rattle.refusal.specs.Tables.{both_checked, length_checked}
use Rattle.refusal.specs.declared.Refusal.{Refusal}
use Rattle.levels.specs.Table.{with_level}
use Rattle.marks.specs.Marks.{with_in}
use Rattle.certificate.specs.Reading.{claims_in}
use Rattle.certificate.specs.declared.Claim.{Claim}

-- both tables have one entry for each of the n atoms: the marks are looked at first
abbrev pub fitting : ℕ → ℕ → ℕ → Result (Unit {0}) Refusal
fitting n marks entries = both_checked (length_checked n marks) (length_checked n entries)

-- what may be claimed of tables that fit: what the certificate's reader answers
abbrev pub allowed : {L : Type 0} → Result (Unit {0}) Refusal → Result (List (Claim L)) Refusal → Result (List (Claim L)) Refusal
allowed (Ok u) claims = claims
allowed (Err e) claims = Err e

-- what may be claimed of tables of those lengths by a certificate for n atoms, with levels of that kind
abbrev pub claims_for : {L : Type 0} → (width : ℕ) (decode : List ℕ → L) (n kind marks entries : ℕ) (bytes : List ℕ) → Result (List (Claim L)) Refusal
claims_for width decode n kind marks entries bytes = allowed (fitting n marks entries) (claims_in width decode n kind bytes)

-- whether a survey can be made
abbrev pub makeable : {L : Type 0} → Result (List (Claim L)) Refusal → Result (Unit {0}) Refusal
makeable (Ok claims) = Ok tt
makeable (Err e) = Err e

-- the claims that a survey is made with: none where it cannot be made
abbrev pub claims_or_none : {L : Type 0} → Result (List (Claim L)) Refusal → List (Claim L)
claims_or_none (Ok claims) = claims
claims_or_none (Err e) = []

-- the marks with each claimed atom put in
abbrev pub with_claims : {L : Type 0} → List ℕ → List (Claim L) → List ℕ
with_claims marks [] = marks
with_claims marks (c ∷ claims) = with_claims (with_in marks c.atom) claims

abbrev pub with_entry : {L : Type 0} → List (Option L) → ℕ → Option L → List (Option L)
with_entry entries a None = entries
with_entry entries a (Some x) = with_level entries a x

-- the entries with each claimed level put in
abbrev pub with_levels : {L : Type 0} → List (Option L) → List (Claim L) → List (Option L)
with_levels entries [] = entries
with_levels entries (c ∷ claims) = with_levels (with_entry entries c.atom c.level) claims

-- the marks of a survey that is made with claims: every other atom is out
abbrev pub made_marks : {L : Type 0} → ℕ → List (Claim L) → List ℕ
made_marks many claims = with_claims (replicate many 0) claims

-- the entries of a survey that is made with claims: every other entry is empty
abbrev pub made_entries : {L : Type 0} → ℕ → List (Claim L) → List (Option L)
made_entries many claims = with_levels (replicate many None) claims
