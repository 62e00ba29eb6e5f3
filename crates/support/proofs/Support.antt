-- Whether rule k supports an atom with a test on its positive atoms, by what was asked of the rule. Assumes nothing.
use Rattle.std.proofs.Common.{◌≡◌, ℕ, Bool, true, false, not, ◌&&◌, eqb, List, [], ◌∷◌, Some, None, Option, unwrap_or, refl, sym, ◌∙◌}
use Rattle.std.specs.Option.{option_map}
use Rattle.std.proofs.lemmas.Bool.{and_right, both_ways}
use Rattle.rules.specs.Program.{Rule, Program}
use Rattle.rules.specs.Questions.{negative_part, positive_part, rule_at}
use Rattle.rules.specs.Stable.{Atoms, body, supports, supports_with}
use Rattle.rules.specs.Tests.{all, any}
use Rattle.rules.proofs.Parts.{passes_at}
use Rattle.support.specs.Chains.{has_head}
use Rattle.support.specs.Rules.{supports_at}

regrouped : (w x y z : Bool) → (w && (x && (y && z))) ≡ ((w && (x && y)) && z)
regrouped true true y z = refl
regrouped true false y z = refl
regrouped false x y z = refl

-- one element more that is asked for both
one_more : (s t h x y z : Bool) → ((x && h) && y) ≡ (h && z) → (((s && x) && h) && (t && y)) ≡ (h && ((s && t) && z))
one_more true true h x y z e = e
one_more true false h x y z e = and_right (x && h) false refl ∙ sym (and_right h false refl)
one_more false t h x y z e = sym (and_right h false refl)

-- two walks over a list, as one
walked_once : (set test : ℕ → Bool) (h : Bool) (xs : List ℕ) → ((all set xs && h) && all test xs) ≡ (h && all (λ b. set b && test b) xs)
walked_once set test true [] = refl
walked_once set test false [] = refl
walked_once set test h (x ∷ xs) = one_more (set x) (test x) h (all set xs) (all test xs) (all (λ b. set b && test b) xs) (walked_once set test h xs)

module _ (test : ℕ → Bool) (set : Atoms) (a : ℕ) where
  split : (r : Option Rule) → unwrap_or (option_map (supports_with test set a) r) false ≡ (unwrap_or (option_map (supports set a) r) false && all test (unwrap_or (option_map (λ r. r.positive) r) []))
  split None = refl
  split (Some r) = regrouped (eqb r.head a) (set a) (body set r) (all test r.positive)

  of_own : (r : Option Rule) → unwrap_or (option_map (λ h. eqb h a) (option_map (λ r. r.head) r)) false ≡ true → set a ≡ true → unwrap_or (option_map (supports_with test set a) r) false ≡ (not (any set (unwrap_or (option_map (λ r. r.negative) r) [])) && all (λ b. set b && test b) (unwrap_or (option_map (λ r. r.positive) r) []))
  of_own None own into = absurd (both_ways false refl own)
  of_own (Some r) own into = rw (own, into) (walked_once set test (not (any set r.negative)) r.positive)

  module _ (p : Program) (k : ℕ) where
    -- rule k supports the atom, and each of its positive atoms passes the test
    pub supports_with_parts : passes_at p k (supports_with test set a) ≡ (supports_at p set a k && all test (positive_part p k))
    supports_with_parts = split (rule_at p k)

    -- where its head is the atom, in the set: no negative atom is in the set, and each positive one is and passes the test
    pub supports_with_own : has_head p a k ≡ true → set a ≡ true → passes_at p k (supports_with test set a) ≡ (not (any set (negative_part p k)) && all (λ b. set b && test b) (positive_part p k))
    supports_with_own own into = of_own (rule_at p k) own into
