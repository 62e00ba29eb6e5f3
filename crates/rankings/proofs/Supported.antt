-- Rules that support an atom, and what passes a test in a list of rules. Assumes nothing.
use Rattle.std.proofs.Common.{◌≡◌, ℕ, Bool, true, false, not, ◌&&◌, eqb, List, [], ◌∷◌}
use Rattle.std.specs.List.{AllByRecursion}
use Rattle.std.proofs.ByRecursion.{All-weaker}
use Rattle.std.proofs.lemmas.Bool.{and_from, and_parts, eq-eqb, eqb-true, not_from_false, or_left, or_right}
use Rattle.rules.specs.Program.{Rule}
use Rattle.rules.specs.Stable.{Atoms, body, stays, supports, supports_with}
use Rattle.rules.specs.Tests.{all, any}

-- a test that the element passes is passed by some element of the list
abbrev pub Listed : {X : Type 0} → List X → X → Type 0
Listed {X} xs x = (test : X → Bool) → test x ≡ true → any test xs ≡ true

module _ {X : Type 0} where
  pub each_listed : (xs : List X) → AllByRecursion (Listed xs) xs
  each_listed [] = tt
  each_listed (x ∷ xs) = (
    (λ test e. or_left (test x) (any test xs) e),
    All-weaker (Listed xs) (Listed (x ∷ xs)) (λ y h test e. or_right (test x) (any test xs) (h test e)) xs (each_listed xs),
  )

module _ (set : Atoms) (a : ℕ) (r : Rule) where
  pub supports_from : r.head ≡ a → set a ≡ true → body set r ≡ true → supports set a r ≡ true
  supports_from same into holds = and_from (eqb r.head a) (set a && body set r) (eq-eqb r.head a same) (and_from (set a) (body set r) into holds)

  pub supports_parts : supports set a r ≡ true → (r.head ≡ a) × (set a ≡ true) × (body set r ≡ true)
  supports_parts e =
      let outer = and_parts (eqb r.head a) (set a && body set r) e in
      let inner = and_parts (set a) (body set r) outer.1 in
      (eqb-true r.head a outer.0, inner.0, inner.1)

  -- with a test on its positive atoms, a rule supports an atom where it does so without, and they pass
  module _ (test : ℕ → Bool) where
    pub supports_with_from : supports set a r ≡ true → all test r.positive ≡ true → supports_with test set a r ≡ true
    supports_with_from e passes =
        let parts = supports_parts e in
        and_from (eqb r.head a) (set a && (body set r && all test r.positive)) (eq-eqb r.head a parts.0) (and_from (set a) (body set r && all test r.positive) parts.1 (and_from (body set r) (all test r.positive) parts.2 passes))

    pub supports_with_parts : supports_with test set a r ≡ true → (supports set a r ≡ true) × (all test r.positive ≡ true)
    supports_with_parts e =
        let outer = and_parts (eqb r.head a) (set a && (body set r && all test r.positive)) e in
        let inner = and_parts (set a) (body set r && all test r.positive) outer.1 in
        let rest = and_parts (body set r) (all test r.positive) inner.1 in
        (supports_from (eqb-true r.head a outer.0) inner.0 rest.0, rest.1)

-- the two parts of a body
module _ (set : Atoms) (r : Rule) where
  pub positive_from_body : body set r ≡ true → all set r.positive ≡ true
  positive_from_body e = (and_parts (all set r.positive) (not (any set r.negative)) e).0

  -- a rule with a true body stays in the reduct, where its head is an atom
  pub stays_from_body : body set r ≡ true → eqb r.head 0 ≡ false → stays set r ≡ true
  stays_from_body e head = and_from (not (eqb r.head 0)) (not (any set r.negative)) (not_from_false (eqb r.head 0) head) (and_parts (all set r.positive) (not (any set r.negative)) e).1

  pub body_from_stays : stays set r ≡ true → all set r.positive ≡ true → body set r ≡ true
  body_from_stays e positive = and_from (all set r.positive) (not (any set r.negative)) positive (and_parts (not (eqb r.head 0)) (not (any set r.negative)) e).1
