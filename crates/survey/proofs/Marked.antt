-- The marks, with claims put in: an atom is marked that is claimed or was marked before, and lawful bytes stay lawful. Assumes nothing.
use Rattle.std.proofs.Common.{◌≡◌, ℕ, zero, suc, ◌-◌, Bool, true, false, cond, ◌||◌, eqb, List, [], ◌∷◌, length, get_or, replicate, None, refl, ap, ◌∙◌, arith}
use Rattle.std.proofs.lemmas.Bool.{and_parts}
use Rattle.std.proofs.lemmas.Bool.Decides.{nat_tests}
use Rattle.rules.specs.Program.{within}
use Rattle.rules.specs.Tests.{all, member}
use Rattle.rules.proofs.Tests.{within_parts}
use Rattle.tables.proofs.Entries.{length-with_put}
use Rattle.marks.specs.Marks.{byte_of, in_byte, lawful_byte, lowest_unlawful, marked, with_in}
use Rattle.marks.proofs.Written.{lawful_from_each, lawful_put, marked_put}
use Rattle.certificate.specs.Claims.{atoms_of}
use Rattle.certificate.specs.declared.Claim.{Claim}
use Rattle.survey.specs.Making.{made_marks, with_claims}

-- ONE ATOM

or_chosen : (x y : Bool) → cond x true y ≡ (x || y)
or_chosen true y = refl
or_chosen false y = refl

marked-with_in : (marks : List ℕ) (b : ℕ) → within (length marks) b ≡ true → (a : ℕ) → marked (with_in marks b) a ≡ (eqb a b || marked marks a)
marked-with_in marks b known a =
    let ends = within_parts (length marks) b known in
    marked_put marks b 1 a ends.0 ends.1 ∙ or_chosen (eqb a b) (marked marks a)

-- ALL ATOMS

or_next : (x y z : Bool) → (x || (y || z)) ≡ ((y || x) || z)
or_next true true z = refl
or_next true false z = refl
or_next false true z = refl
or_next false false z = refl

module _ {L : Type 0} where
  pub length-with_claims : (claims : List (Claim L)) (marks : List ℕ) → length (with_claims marks claims) ≡ length marks
  length-with_claims [] marks = refl
  length-with_claims (c ∷ claims) marks = length-with_claims claims (with_in marks c.atom) ∙ length-with_put marks c.atom 1

  pub marked-with_claims : (claims : List (Claim L)) (marks : List ℕ) → all (within (length marks)) (atoms_of claims) ≡ true
      → (a : ℕ) → marked (with_claims marks claims) a ≡ (member a (atoms_of claims) || marked marks a)
  marked-with_claims [] marks known a = refl
  marked-with_claims (c ∷ claims) marks known a =
      let parts = and_parts (within (length marks) c.atom) (all (within (length marks)) (atoms_of claims)) known in
      marked-with_claims claims (with_in marks c.atom) (ap (λ n. all (within n) (atoms_of claims)) (length-with_put marks c.atom 1) ∙ parts.1) a
      ∙ ap (λ t. member a (atoms_of claims) || t) (marked-with_in marks c.atom parts.0 a)
      ∙ or_next (member a (atoms_of claims)) (eqb a c.atom) (marked marks a)

  lawful_with_claims : (claims : List (Claim L)) (marks : List ℕ) → lowest_unlawful marks ≡ None → lowest_unlawful (with_claims marks claims) ≡ None
  lawful_with_claims [] marks lawful = lawful
  lawful_with_claims (c ∷ claims) marks lawful = lawful_with_claims claims (with_in marks c.atom) (lawful_put marks c.atom 1 refl lawful)

-- TABLES OF A SURVEY THAT IS MADE

all_zero : (many i : ℕ) → get_or {A = ℕ} (replicate many 0) i 0 ≡ 0
all_zero zero i = refl
all_zero (suc many) zero = refl
all_zero (suc many) (suc i) = all_zero many i

zero_byte : (many a : ℕ) → byte_of (replicate many 0) a ≡ 0
zero_byte many a = grind (arith, nat_tests, all_zero many (a - 1))

pub none_marked : (many a : ℕ) → marked (replicate many 0) a ≡ false
none_marked many a = ap in_byte (zero_byte many a)

none_unlawful : (many : ℕ) → lowest_unlawful (replicate many 0) ≡ None
none_unlawful many = lawful_from_each (replicate many 0) (λ a low high. ap lawful_byte (zero_byte many a))

pub made_lawful : {L : Type 0} (many : ℕ) (claims : List (Claim L)) → lowest_unlawful (made_marks many claims) ≡ None
made_lawful many claims = lawful_with_claims claims (replicate many 0) (none_unlawful many)
