-- What a certificate claims: atoms that are in, in ascending order, each with a level or none. Assumes nothing.
use Rattle.std.specs.Prelude.{◌≡◌, ℕ, true, List, map}
use Rattle.rules.specs.Program.{within, ascending}
use Rattle.rules.specs.Tests.{all}
use Rattle.certificate.specs.declared.Claim.{Claim}

abbrev pub atoms_of : {L : Type 0} → List (Claim L) → List ℕ
atoms_of claims = map (λ c. c.atom) claims

-- claims over the atoms 1 to n
pub record LawfulClaims {L : Type 0} (n : ℕ) (claims : List (Claim L)) : Type 0 where
  pub known : all (within n) (atoms_of claims) ≡ true
  pub ascends : ascending (atoms_of claims) ≡ true
