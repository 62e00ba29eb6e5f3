-- Stable sets against rounds: a set is stable where no rule is broken and the rounds take each of its atoms. Assumes nothing.
use Rattle.std.proofs.Common.{◌≡◌, ℕ, zero, suc, true, false, not, ◌||◌, eqb, refl, sym, ap, ◌∙◌, ⊎_elim, arith}
use Rattle.std.specs.List.{AllByRecursion}
use Rattle.std.proofs.ByRecursion.{All-weaker}
use Rattle.std.proofs.lemmas.Bool.{and_cases, and_left, and_right, both_ways, cases_Bool, ne_eqb, not_from_true, or_from}
use Rattle.rules.specs.Program.{Rule, Program}
use Rattle.rules.specs.Stable.{Atoms, Stable, body, broken, broken_constraint, stays, supports, supports_with}
use Rattle.rules.specs.Tests.{all}
use Rattle.rules.proofs.Reduct.{Heeds, closed_from_rules, heeds_unbroken, rules_from_closed, unbroken_constraint}
use Rattle.rules.proofs.Tests.{all_both, all_grows, any_from_none, each_from_none, given_by_any, within_parts}
use Rattle.rankings.specs.Rounds.{taken, round_of}
use Rattle.rankings.specs.Laws.{Known, NoneBroken, StableWhenRanked}
use Rattle.rankings.proofs.Rankings.{ranked_taken, rounds_rank}
use Rattle.rankings.proofs.Rounds.{taken_in, enough}
use Rattle.rankings.proofs.Supported.{Listed, body_from_stays, each_listed, positive_from_body, stays_from_body, supports_from, supports_parts, supports_with_from, supports_with_parts}

-- a rule that is heeded where it stays, and is no broken constraint, is not broken
unbroken_heeded : (set : Atoms) (r : Rule) → (stays set r ≡ true → Heeds set r) → broken_constraint set r ≡ false → broken set r ≡ false
unbroken_heeded set r heeds whole =
    let apart : body set r ≡ false → broken set r ≡ false = λ e. and_left (body set r) (eqb r.head 0 || not (set r.head)) e in
    ⊎_elim
    (λ head. ⊎_elim
    (λ holds. and_right (body set r) (eqb r.head 0 || not (set r.head)) (or_from (eqb r.head 0) (not (set r.head)) head (not_from_true (set r.head) (heeds (stays_from_body set r holds head) (positive_from_body set r holds)))))
    apart
    (cases_Bool (body set r)))
    apart
    (and_cases (eqb r.head 0) (body set r) whole)

module _ (p : Program) (set : Atoms) where
  -- what the reduct asks of other atoms, said of each rule of the program
  abbrev Heeded : Atoms → Rule → Type 0
  Heeded other r = stays set r ≡ true → Heeds other r

  -- a stable set breaks no rule
  pub stable_unbroken : Stable p set → NoneBroken p set
  stable_unbroken stable =
      any_from_none (broken set) p.rules
      (All-weaker (λ r. Heeded set r × (broken_constraint set r ≡ false)) (λ r. broken set r ≡ false) (λ r h. unbroken_heeded set r h.0 h.1) p.rules
      (all_both (Heeded set) (λ r. broken_constraint set r ≡ false) p.rules (rules_from_closed set set p.rules stable.least.0) (each_from_none (broken_constraint set) p.rules stable.constraints)))

  module _ (known : Known p set) where
    -- the atoms that the rounds take are closed under a rule that the set heeds
    taken_heed : (r : Rule) → Heeded set r × Listed p.rules r → Heeded (taken p set p.atoms) r
    taken_heed r h stay positive =
        let inside : all set r.positive ≡ true = all_grows (taken p set p.atoms) set (taken_in p set p.atoms) r.positive positive in
        let supported : supports set r.head r ≡ true = supports_from set r.head r refl (h.0 stay inside) (body_from_stays set r stay inside) in
        enough p set known (suc p.atoms) r.head (h.1 (supports_with (taken p set p.atoms) set r.head) (supports_with_from set r.head r (taken p set p.atoms) supported positive))

    -- the rounds take each atom of a stable set
    pub stable_taken : Stable p set → (a : ℕ) → set a ≡ true → taken p set p.atoms a ≡ true
    stable_taken stable =
        stable.least.1 (taken p set p.atoms)
        (closed_from_rules set (taken p set p.atoms) p.rules
        (All-weaker (λ r. Heeded set r × Listed p.rules r) (Heeded (taken p set p.atoms)) taken_heed p.rules
        (all_both (Heeded set) (Listed p.rules) p.rules (rules_from_closed set set p.rules stable.least.0) (each_listed p.rules))))

    supports_stays : (a : ℕ) (r : Rule) → supports set a r ≡ true → stays set r ≡ true
    supports_stays a r e =
        let parts = supports_parts set a r e in
        let place = within_parts p.atoms a (known a parts.1) in
        stays_from_body set r parts.2 (ne_eqb r.head 0 (λ none. omega (arith, parts.0)))

    -- what the rounds take is in each set that is closed under the reduct
    taken_in_closed : (other : Atoms) → AllByRecursion (Heeded other) p.rules → (k a : ℕ) → taken p set k a ≡ true → other a ≡ true
    taken_in_closed other closed zero a e = absurd (both_ways false refl e)
    taken_in_closed other closed (suc k) a e =
        given_by_any (supports_with (taken p set k) set a) p.rules e
        (All-weaker (Heeded other) (λ r. supports_with (taken p set k) set a r ≡ true → other a ≡ true)
        (λ r heeds s. let parts = supports_with_parts set a r (taken p set k) s in
        let positive : all other r.positive ≡ true = all_grows (taken p set k) other (taken_in_closed other closed k) r.positive parts.1 in
        ap other (sym (supports_parts set a r parts.0).0) ∙ heeds (supports_stays a r parts.0) positive)
        p.rules closed)

    -- where no rule is broken and the rounds take each atom of the set, it is stable
    pub taken_stable : NoneBroken p set → ((a : ℕ) → set a ≡ true → taken p set p.atoms a ≡ true) → Stable p set
    taken_stable whole each_taken =
        let unbroken : AllByRecursion (λ r. broken set r ≡ false) p.rules = each_from_none (broken set) p.rules whole in
        record {
          least = (
            closed_from_rules set set p.rules (All-weaker (λ r. broken set r ≡ false) (Heeded set) (heeds_unbroken set) p.rules unbroken),
            λ other closed a into. taken_in_closed other (rules_from_closed set other p.rules closed) p.atoms a (each_taken a into),
          );
          constraints = any_from_none (broken_constraint set) p.rules (All-weaker (λ r. broken set r ≡ false) (λ r. broken_constraint set r ≡ false) (unbroken_constraint set) p.rules unbroken);
        }

pub stable_when_ranked : (p : Program) → StableWhenRanked p
stable_when_ranked p set known = (
  (λ stable. (stable_unbroken p set stable, (round_of p set, rounds_rank p set (stable_taken p set known stable)))),
  (λ h. taken_stable p set known h.0 (ranked_taken p set h.1.0 known h.1.1)),
)
