-- What the tables of a survey say once it is made, in the words of its claims. Assumes nothing.
use Rattle.std.specs.Prelude.{◌≡◌, ℕ, cond, List, [], ◌∷◌, Some, None, Option, ◌==◌}
use Rattle.rules.specs.Tests.{member}
use Rattle.levels.specs.Table.{held, level_of}
use Rattle.marks.specs.Marks.{marked}
use Rattle.certificate.specs.Claims.{atoms_of}
use Rattle.certificate.specs.declared.Claim.{Claim}

-- the level that the claims give the atom a: that of the claim that names it, and none where no claim does or it has none
abbrev pub claimed_level : {L : Type 0} → List (Claim L) → ℕ → Option L
claimed_level [] a = None
claimed_level (c ∷ claims) a = cond (a == c.atom) (held (Some c.level)) (claimed_level claims a)

-- the claimed atoms are in and no other, and each atom has the level claimed for it and no other
pub record MadeFrom {L : Type 0} (claims : List (Claim L)) (marks : List ℕ) (entries : List (Option L)) : Type 0 where
  pub marked_are_claimed : (a : ℕ) → marked marks a ≡ member a (atoms_of claims)
  pub levels_are_claimed : (a : ℕ) → level_of entries a ≡ claimed_level claims a
