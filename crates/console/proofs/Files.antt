-- Accepted files hold a program and a stable set of it. Assumes nothing.
use Rattle.std.proofs.Common.{◌≡◌, ℕ, Bool, true, false, cond, eqb, List, Ok, Err, Result, refl, subst, inl, inr}
use mathlib.Core.Path.{fun_ext}
use Rattle.refusal.specs.Results.{err_not_ok}
use Rattle.refusal.specs.declared.Reason.TheVariants.{LevelKind}
use Rattle.refusal.specs.declared.Refusal.{Refusal}
use Rattle.records.specs.Words.{Bytes}
use Rattle.rules.specs.Program.{Program}
use Rattle.rules.specs.Stable.{Atoms, Stable}
use Rattle.rules.specs.Tests.{member}
use Rattle.orders.specs.Laws.{number_laws, number_stored, route_laws, route_stored}
use Rattle.orders.specs.Numbers.{less, number, number_rungs, number_kind, number_width, number_bytes, number_from}
use Rattle.levels.specs.Order.{Order}
use Rattle.orders.specs.Routes.{inside, route_rung, route_rungs, route_kind, route_width, route_bytes, route_from}
use Rattle.levels.specs.Stored.{Stored}
use Rattle.marks.specs.Marks.{marked}
use Rattle.program.specs.Encoding as program_file
use Rattle.program.specs.Reading.{program_in}
use Rattle.program.proofs.Relation as program_relation
use Rattle.certificate.specs.Claims.{atoms_of}
use Rattle.certificate.specs.Reading.{refusal_at, stated_kind, claims_in}
use Rattle.certificate.specs.declared.Claim.{Claim}
use Rattle.certificate.proofs.Relation as certificate_relation
use Rattle.survey.specs.Making.{made_marks, made_entries}
use Rattle.survey.proofs.Made.{makes}
use Rattle.verdict.proofs.Accepted.{judged_is_stable}
use Rattle.verdict.specs.declared.Verdict.TheVariants.{Accepted}
use Rattle.console.specs.Accepted.{Claims, StableFiles, AcceptsOnlyStableFiles}
use Rattle.console.specs.Answer.{judged_claims, by_level_kind, by_program, answer_for}

module _ {L : Type 0} (below : L → L → Bool) (count : ℕ) (rung : ℕ → L) (laws : Order below count rung)
    (width : ℕ) (encode : L → List ℕ) (decode : List ℕ → L) (stored : Stored width encode decode) (kind : ℕ)
    (p : Program) (certificate : List ℕ) (bytes : Bytes certificate) (m : ℕ) where
  -- the atoms that the certificate claims, and that they are stable
  pub record StableClaims : Type 0 where
    pub atoms : List ℕ
    pub claimed : Claims encode p.atoms kind certificate atoms
    pub stable : Stable p (λ a. member a atoms)

  by_claims : (r : Result (List (Claim L)) Refusal) → claims_in width decode p.atoms kind certificate ≡ r → judged_claims below p r ≡ Ok (Accepted m) → StableClaims
  by_claims (Err e) is h = absurd (err_not_ok h)
  by_claims (Ok claims) is h =
      let exact = (certificate_relation.reads_exactly width encode decode stored p.atoms kind certificate bytes claims).0 is in
      let same : marked (made_marks p.atoms claims) ≡ (λ a. member a (atoms_of claims)) = fun_ext (makes width decode p.atoms kind certificate claims is).says.marked_are_claimed in
      record {
        atoms = atoms_of claims;
        claimed = record { claims = claims; storable = exact.0; encoded = exact.1; named = refl };
        stable = subst (λ (set : Atoms). Stable p set) same (judged_is_stable below count rung laws p (made_marks p.atoms claims) (made_entries p.atoms claims) m h);
      }

  pub stable_claims : judged_claims below p (claims_in width decode p.atoms kind certificate) ≡ Ok (Accepted m) → StableClaims
  stable_claims h = by_claims (claims_in width decode p.atoms kind certificate) refl h

module _ (program certificate : List ℕ) (small : Bytes program) (certificate_small : Bytes certificate) (m : ℕ) where
  module _ (p : Program) (is : program_in program ≡ Ok p) where
    exact : program_file.Storable p × (program ≡ program_file.encoding p)
    exact = (program_relation.reads_exactly program small p).0 is

    by_numbers : judged_claims less p (claims_in number_width number_from p.atoms number_kind certificate) ≡ Ok (Accepted m) → StableFiles program certificate
    by_numbers h =
        let found = stable_claims less number_rungs number number_laws number_width number_bytes number_from number_stored number_kind p certificate certificate_small m h in
        record { rules = p; storable = exact.0; encoded = exact.1; atoms = found.atoms; claimed = inl found.claimed; stable = found.stable }

    by_routes : judged_claims inside p (claims_in route_width route_from p.atoms route_kind certificate) ≡ Ok (Accepted m) → StableFiles program certificate
    by_routes h =
        let found = stable_claims inside route_rungs route_rung route_laws route_width route_bytes route_from route_stored route_kind p certificate certificate_small m h in
        record { rules = p; storable = exact.0; encoded = exact.1; atoms = found.atoms; claimed = inr found.claimed; stable = found.stable }

    by_tests : (one two : Bool)
        → cond one (judged_claims less p (claims_in number_width number_from p.atoms number_kind certificate))
        (cond two (judged_claims inside p (claims_in route_width route_from p.atoms route_kind certificate)) (Err (refusal_at LevelKind 0))) ≡ Ok (Accepted m)
        → StableFiles program certificate
    by_tests true two h = by_numbers h
    by_tests false true h = by_routes h
    by_tests false false h = absurd (err_not_ok h)

    by_kind : (k : Result ℕ Refusal) → by_level_kind p certificate k ≡ Ok (Accepted m) → StableFiles program certificate
    by_kind (Err e) h = absurd (err_not_ok h)
    by_kind (Ok kind) h = by_tests (eqb kind 1) (eqb kind 2) h

  by_reading : (r : Result Program Refusal) → program_in program ≡ r → by_program certificate r ≡ Ok (Accepted m) → StableFiles program certificate
  by_reading (Err e) is h = absurd (err_not_ok h)
  by_reading (Ok p) is h = by_kind p is (stated_kind p.atoms certificate) h

pub accepts_only_stable : (program certificate : List ℕ) → Bytes program → Bytes certificate → AcceptsOnlyStableFiles program certificate (answer_for program certificate)
accepts_only_stable program certificate small certificate_small m h = by_reading program certificate small certificate_small m (program_in program) refl h
