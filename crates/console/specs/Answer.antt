-- What is answered for a program file and a certificate file. Assumes nothing.
use Rattle.std.specs.Prelude.{ℕ, Bool, cond, List, Ok, Err, Result, ◌==◌}
use Rattle.refusal.specs.declared.Reason.TheVariants.{LevelKind}
use Rattle.refusal.specs.declared.Refusal.{Refusal}
use Rattle.rules.specs.Program.{Program}
use Rattle.orders.specs.declared.kind.LevelKind.TheVariants as kind_of_levels
use Rattle.orders.specs.declared.kind.LevelKind as levels
use Rattle.orders.specs.Numbers.{less, number_kind, number_width, number_from}
use Rattle.orders.specs.Routes.{inside, route_kind, route_width, route_from}
use Rattle.program.specs.Reading.{program_in}
use Rattle.certificate.specs.Reading.{refusal_at, stated_kind, claims_in}
use Rattle.certificate.specs.declared.Claim.{Claim}
use Rattle.survey.specs.Making.{made_marks, made_entries}
use Rattle.verdict.specs.Judge.{judged}
use Rattle.verdict.specs.declared.Verdict.{Verdict}

module _ {L : Type 0} (below : L → L → Bool) where
  -- judge, on the survey that is made with the claims
  abbrev pub judged_claims : Program → Result (List (Claim L)) Refusal → Result Verdict Refusal
  judged_claims p (Err e) = Err e
  judged_claims p (Ok claims) = judged below p (made_marks p.atoms claims) (made_entries p.atoms claims)

-- the kind of levels that is stated, where it is that of numbers or that of routes
abbrev pub known_kind : Result ℕ Refusal → Result levels.LevelKind Refusal
known_kind (Err e) = Err e
known_kind (Ok kind) = cond (kind == 1) (Ok kind_of_levels.Numbers) (cond (kind == 2) (Ok kind_of_levels.Routes) (Err (refusal_at LevelKind 0)))

-- the level kind that the certificate states is that of numbers or that of routes
abbrev pub by_level_kind : Program → List ℕ → Result ℕ Refusal → Result Verdict Refusal
by_level_kind p certificate (Err e) = Err e
by_level_kind p certificate (Ok kind) =
    cond (kind == 1) (judged_claims less p (claims_in number_width number_from p.atoms number_kind certificate))
    (cond (kind == 2) (judged_claims inside p (claims_in route_width route_from p.atoms route_kind certificate))
    (Err (refusal_at LevelKind 0)))

abbrev pub by_program : List ℕ → Result Program Refusal → Result Verdict Refusal
by_program certificate (Err e) = Err e
by_program certificate (Ok p) = by_level_kind p certificate (stated_kind p.atoms certificate)

-- the program is read first, then the certificate; then the survey that it makes is judged
abbrev pub answer_for : List ℕ → List ℕ → Result Verdict Refusal
answer_for program certificate = by_program certificate (program_in program)
