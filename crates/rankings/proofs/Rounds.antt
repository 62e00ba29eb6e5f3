-- Which atoms the rounds take: what one takes stays taken, and as many rounds as atoms are enough. Assumes nothing.
use Rattle.std.proofs.Common.{◌≡◌, ℕ, zero, suc, ◌≤◌, Bool, true, false, not, ◌&&◌, eqb, get_or, is_some, refl, subst, ◌⊎◌, inl, inr, ⊎_elim, arith}
use Rattle.std.proofs.lemmas.List.Elements.{recursion_from_All}
use Rattle.std.proofs.lemmas.Bool.{and_cases, and_from, and_parts, both_ways, cases_Bool, cases_lt, not-false, not-true}
use Rattle.rules.specs.Program.{Rule, Program}
use Rattle.rules.specs.Stable.{Atoms, body, supports_with}
use Rattle.rules.specs.Tests.{all, lowest, tally}
use Rattle.rules.proofs.Tests.{all_grows, any_grows, given_by_any, none_unless_some, some_from_lowest, tally_full, tally_less, within_parts}
use Rattle.rankings.specs.Laws.{Known}
use Rattle.rankings.specs.Rounds.{taken}

module _ (set : Atoms) (a : ℕ) (r : Rule) where
  -- a rule that supports an atom, with a test on its positive atoms
  pub supported_in : (test : ℕ → Bool) → supports_with test set a r ≡ true → set a ≡ true
  supported_in test h = (and_parts (set a) (body set r && all test r.positive) (and_parts (eqb r.head a) (set a && (body set r && all test r.positive)) h).1).0

  pub supports_grows : (small large : ℕ → Bool) → ((b : ℕ) → small b ≡ true → large b ≡ true) → supports_with small set a r ≡ true → supports_with large set a r ≡ true
  supports_grows small large grows h =
      let outer = and_parts (eqb r.head a) (set a && (body set r && all small r.positive)) h in
      let inner = and_parts (set a) (body set r && all small r.positive) outer.1 in
      let rest = and_parts (body set r) (all small r.positive) inner.1 in
      and_from (eqb r.head a) (set a && (body set r && all large r.positive)) outer.0
      (and_from (set a) (body set r && all large r.positive) inner.0
      (and_from (body set r) (all large r.positive) rest.0 (all_grows small large grows r.positive rest.1)))

module _ (p : Program) (set : Atoms) where
  pub taken_in : (k a : ℕ) → taken p set k a ≡ true → set a ≡ true
  taken_in zero a h = absurd (both_ways false refl h)
  taken_in (suc k) a h =
      given_by_any (supports_with (taken p set k) set a) p.rules h
      (recursion_from_All (λ r. supports_with (taken p set k) set a r ≡ true → set a ≡ true) p.rules (λ i d l. supported_in set a (get_or p.rules i d) (taken p set k)))

  -- where round k takes only what round m takes, so the rounds after them
  next_grows : (k m : ℕ) → ((b : ℕ) → taken p set k b ≡ true → taken p set m b ≡ true) → (a : ℕ) → taken p set (suc k) a ≡ true → taken p set (suc m) a ≡ true
  next_grows k m grows a = any_grows (supports_with (taken p set k) set a) (supports_with (taken p set m) set a) (λ r. supports_grows set a r (taken p set k) (taken p set m) grows) p.rules

  stays_taken : (k a : ℕ) → taken p set k a ≡ true → taken p set (suc k) a ≡ true
  stays_taken zero a h = absurd (both_ways false refl h)
  stays_taken (suc k) a h = next_grows k (suc k) (stays_taken k) a h

  pub taken_later : (k m a : ℕ) → k ≤ m → taken p set k a ≡ true → taken p set m a ≡ true
  taken_later k zero a later h = let none : k ≡ 0 = omega arith in subst (λ j. taken p set j a ≡ true) none h
  taken_later k (suc m) a later h =
      ⊎_elim
      (λ past. let last : k ≡ suc m = omega arith in subst (λ j. taken p set j a ≡ true) last h)
      (λ before. stays_taken m a (taken_later k m a before h))
      (cases_lt m k)

  -- the round after the first k takes nothing new
  abbrev pub Steady : ℕ → Type 0
  Steady k = (a : ℕ) → taken p set (suc k) a ≡ true → taken p set k a ≡ true

  -- after a round that takes nothing new no later round takes anything
  pub steady : (k : ℕ) → Steady k → (m a : ℕ) → taken p set m a ≡ true → taken p set k a ≡ true
  steady k still zero a h = absurd (both_ways false refl h)
  steady k still (suc m) a h = still a (next_grows m k (steady k still m) a h)

  module _ (known : Known p set) where
    -- the atom is taken by the round after the first k
    abbrev new : ℕ → ℕ → Bool
    new k a = taken p set (suc k) a && not (taken p set k a)

    -- where no atom of the program is new
    steady_from_none : (k : ℕ) → is_some (lowest (new k) p.atoms) ≡ false → Steady k
    steady_from_none k none a h =
        let place = within_parts p.atoms a (known a (taken_in (suc k) a h)) in
        ⊎_elim
        (λ out. absurd (both_ways (taken p set (suc k) a) out h))
        (λ old. not-false (taken p set k a) old)
        (and_cases (taken p set (suc k) a) (not (taken p set k a)) (none_unless_some (new k) p.atoms none a place.0 place.1))

    -- the first k rounds take k atoms, unless one of them took nothing new
    grown : (k : ℕ) → (k ≤ tally (taken p set k) p.atoms) ⊎ ((j : ℕ) × (j ≤ k) × Steady j)
    grown zero = inl (omega arith)
    grown (suc k) =
        ⊎_elim
        (λ many.
        ⊎_elim
        (λ some. let b = some_from_lowest (new k) p.atoms some in
        let parts = and_parts (taken p set (suc k) b.0) (not (taken p set k b.0)) b.3 in
        inl (omega (arith, many, tally_less (taken p set k) (taken p set (suc k)) (stays_taken k) p.atoms b.0 b.1 b.2 (not-true (taken p set k b.0) parts.1) parts.0)))
        (λ none. inr (k, omega arith, steady_from_none k none))
        (cases_Bool (is_some (lowest (new k) p.atoms))))
        (λ still. inr (still.0, omega (arith, still.1), still.2))
        (grown k)

    -- as many rounds as atoms are enough
    pub enough : (m a : ℕ) → taken p set m a ≡ true → taken p set p.atoms a ≡ true
    enough m a h =
        let place = within_parts p.atoms a (known a (taken_in m a h)) in
        ⊎_elim
        (λ full. tally_full (taken p set p.atoms) p.atoms full a place.0 place.1)
        (λ still. taken_later still.0 p.atoms a still.1 (steady still.0 still.2 m a h))
        (grown p.atoms)
