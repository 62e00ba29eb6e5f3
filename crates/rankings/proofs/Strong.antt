-- The strict rankings of a set are its strong level rankings. Assumes nothing.
use Rattle.std.proofs.Common.{◌≡◌, ◌≢◌, ℕ, ◌+◌, ◌-◌, ◌<◌, ◌≤◌, Bool, true, ltb, List, [], ◌∷◌, refl, ap, arith}
use Rattle.std.specs.List.{AllByRecursion}
use Rattle.std.proofs.ByRecursion.{All-weaker}
use Rattle.std.proofs.lemmas.Bool.{lt-ltb, ltb-true}
use Rattle.rules.specs.Program.{Rule, Program}
use Rattle.rules.specs.Stable.{Atoms, supports, supports_with}
use Rattle.rules.specs.Tests.{all}
use Rattle.rules.proofs.Tests.{all_both, any_grows, any_weaker, each_from_all}
use Rattle.rankings.specs.Ranking.{StrictRanking, StrongRanking, greatest}
use Rattle.rankings.specs.Laws.{StrictWhenStrong}
use Rattle.rankings.proofs.Greatest.{greatest_upto}
use Rattle.rankings.proofs.Rankings.{AtMostReached, number_some, reaches, reaches_from, reaches_parts, supports_low}
use Rattle.rankings.proofs.Supported.{supports_with_parts}

module _ (set : Atoms) (number : ℕ → ℕ) (a : ℕ) where
  -- b has a number below that of a
  abbrev below : ℕ → Bool
  below b = ltb (number b) (number a)

  -- where the rule supports a, what the number is without positive atoms, and what it is at most with some
  abbrev OneOrClose : Rule → Type 0
  OneOrClose r = (supports set a r ≡ true → r.positive ≡ [] → number a ≡ 1) × (supports set a r ≡ true → r.positive ≢ [] → number a ≤ greatest number r.positive + 1)

  either_at_most : (atoms : List ℕ) → (atoms ≡ [] → number a ≡ 1) → (atoms ≢ [] → number a ≤ greatest number atoms + 1) → number a ≤ greatest number atoms + 1
  either_at_most [] one close = omega (arith, one refl)
  either_at_most (b ∷ atoms) one close = close (λ e. cc)

  either_at_least : (atoms : List ℕ) → (atoms ≡ [] → number a ≡ 1) → all below atoms ≡ true → greatest number atoms + 1 ≤ number a
  either_at_least [] one low = omega (arith, one refl)
  either_at_least (b ∷ atoms) one low =
      let each : AllByRecursion (λ c. number c < number a) (b ∷ atoms) = All-weaker (λ c. below c ≡ true) (λ c. number c < number a) (λ c e. ltb-true (number c) (number a) e) (b ∷ atoms) (each_from_all below (b ∷ atoms) low) in
      let first : number b < number a = each.0 in
      omega (arith, greatest_upto number (number a - 1) (b ∷ atoms) (All-weaker (λ c. number c < number a) (λ c. number c ≤ number a - 1) (λ c h. omega arith) (b ∷ atoms) each))

  module _ (r : Rule) where
    at_most_reached : OneOrClose r → AtMostReached set number a r
    at_most_reached h e = either_at_most r.positive (h.0 e) (h.1 e)

    reached_above : OneOrClose r → supports_with below set a r ≡ true → reaches set number a r ≡ true
    reached_above h e =
        let parts = supports_with_parts set a r below e in
        let most : number a ≤ greatest number r.positive + 1 = at_most_reached h parts.0 in
        let least : greatest number r.positive + 1 ≤ number a = either_at_least r.positive (h.0 parts.0) parts.1 in
        reaches_from set number a r parts.0 (omega arith)

    above_reached : reaches set number a r ≡ true → supports_with below set a r ≡ true
    above_reached e =
        let parts = reaches_parts set number a r e in
        let exact : number a ≡ greatest number r.positive + 1 = parts.1 in
        supports_low set number a r below (λ b _ upto. lt-ltb (number b) (number a) (omega arith)) parts.0

    one_reached : 1 ≤ number a → AtMostReached set number a r → supports set a r ≡ true → r.positive ≡ [] → number a ≡ 1
    one_reached some at_most e empty = let none : greatest number r.positive ≡ 0 = ap (greatest number) empty in omega (arith, at_most e)

module _ (p : Program) (set : Atoms) (number : ℕ → ℕ) where
  strong_from_strict : StrictRanking p set number → StrongRanking p set number
  strong_from_strict strict = record {
    above = λ a into. any_grows (reaches set number a) (supports_with (below set number a) set a) (above_reached set number a) p.rules (strict.reached a into);
    one = λ a into. All-weaker (AtMostReached set number a) (λ r. supports set a r ≡ true → r.positive ≡ [] → number a ≡ 1) (λ r. one_reached set number a r (number_some p set number strict a into)) p.rules (strict.least a into);
    close = λ a into. All-weaker (AtMostReached set number a) (λ r. supports set a r ≡ true → r.positive ≢ [] → number a ≤ greatest number r.positive + 1) (λ r h e _. h e) p.rules (strict.least a into);
  }

  strict_from_strong : StrongRanking p set number → StrictRanking p set number
  strict_from_strong strong =
      let each = λ (a : ℕ) (into : set a ≡ true). all_both (λ r. supports set a r ≡ true → r.positive ≡ [] → number a ≡ 1) (λ r. supports set a r ≡ true → r.positive ≢ [] → number a ≤ greatest number r.positive + 1) p.rules (strong.one a into) (strong.close a into) in
      record {
        reached = λ a into. any_weaker (supports_with (below set number a) set a) (reaches set number a) p.rules (All-weaker (OneOrClose set number a) (λ r. supports_with (below set number a) set a r ≡ true → reaches set number a r ≡ true) (reached_above set number a) p.rules (each a into)) (strong.above a into);
        least = λ a into. All-weaker (OneOrClose set number a) (AtMostReached set number a) (at_most_reached set number a) p.rules (each a into);
      }

pub strict_when_strong : (p : Program) → StrictWhenStrong p
strict_when_strong p set number = (strong_from_strict p set number, strict_from_strong p set number)
