-- The tables of a survey right after its making, and the marked set that making gives. Assumes nothing.
use Rattle.std.specs.Prelude.{ℕ, false, List}
use Rattle.rules.specs.Stable.{Atoms}
use Rattle.rules.specs.Tests.{member}
use Rattle.certificate.specs.Claims.{atoms_of}
use Rattle.certificate.specs.declared.Claim.{Claim}
use Rattle.survey.specs.Making.{made_entries, made_marks}
use Rattle.session.specs.Run.{Tables}

-- no atom
abbrev pub no_atoms : Atoms
no_atoms a = false

-- the claimed atoms, and no other
abbrev pub claimed : {L : Type 0} → List (Claim L) → Atoms
claimed claims a = member a (atoms_of claims)

-- tables of those lengths, made with these claims
abbrev pub made_tables : {L : Type 0} → ℕ → ℕ → List (Claim L) → Tables L
made_tables marks entries claims = record { marks = made_marks marks claims; entries = made_entries entries claims }
