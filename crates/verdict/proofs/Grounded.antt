-- What judge accepts is a stable set. Assumes nothing.
use Rattle.std.proofs.Common.{◌≡◌, ℕ, zero, suc, ◌+◌, ◌<◌, Bool, true, false, not, ◌&&◌, eqb, List, length, Some, None, Option, sym, refl, ap, ◌∙◌, ⊎_elim, arith}
use Rattle.std.specs.List.{AllByRecursion}
use Rattle.std.proofs.ByRecursion.{All-weaker}
use Rattle.std.proofs.lemmas.Bool.{and_cases, and_from, and_parts, and_right, both_ways, not-false, not_from_false, eqb-true, ne_eqb}
use Rattle.rules.specs.Program.{Rule, Program}
use Rattle.rules.specs.Stable.{Atoms, Stable, body, broken, broken_constraint, stays, supports_with}
use Rattle.rules.specs.Tests.{all, any, lowest, tally}
use Rattle.rules.proofs.Reduct.{Heeds, closed_from_rules, heeds_unbroken, rules_from_closed, unbroken_constraint}
use Rattle.rules.proofs.Tests.{all_both, all_from_each, each_from_all, any_from_none, given_by_any, none_from_lowest, tally_less}
use Rattle.levels.specs.Table.{level_of}
use Rattle.marks.specs.Marks.{marked}
use Rattle.marks.proofs.Marked.{marked_above, marked_upto}
use Rattle.support.specs.Rules.{lowest_broken}
use Rattle.support.proofs.Broken.{none_broken}
use Rattle.verdict.specs.Judge.{both_below, grounded, lower, ungrounded}

-- b is marked, with a level below a's
abbrev pub under : {L : Type 0} → (L → L → Bool) → List ℕ → List (Option L) → ℕ → ℕ → Bool
under below marks entries a b = marked marks b && lower below entries a b

module _ {L : Type 0} (below : L → L → Bool) (irrefl : (x : L) → below x x ≡ false) (trans : (x y z : L) → below x y ≡ true → below y z ≡ true → below x z ≡ true) where
  both_below_irrefl : (x : Option L) → both_below below x x ≡ false
  both_below_irrefl None = refl
  both_below_irrefl (Some x) = irrefl x

  both_below_trans : (x y z : Option L) → both_below below x y ≡ true → both_below below y z ≡ true → both_below below x z ≡ true
  both_below_trans None y z h k = h
  both_below_trans (Some x) None z h k = absurd (both_ways false refl h)
  both_below_trans (Some x) (Some y) None h k = k
  both_below_trans (Some x) (Some y) (Some z) h k = trans x y z h k

  module _ (p : Program) (marks : List ℕ) (entries : List (Option L)) (sized : length marks ≡ p.atoms) where
    -- how many atoms are under a
    abbrev depth : ℕ → ℕ
    depth a = tally (under below marks entries a) p.atoms

    depth_less : (a b : ℕ) → marked marks b ≡ true → lower below entries a b ≡ true → depth b < depth a
    depth_less a b into low =
        tally_less (under below marks entries b) (under below marks entries a)
        (λ k h. let parts = and_parts (marked marks k) (lower below entries b k) h in and_from (marked marks k) (lower below entries a k) parts.0 (both_below_trans (level_of entries k) (level_of entries b) (level_of entries a) parts.1 low))
        p.atoms b (marked_above marks b into) (omega (arith, marked_upto marks b into))
        (and_right (marked marks b) (lower below entries b b) (both_below_irrefl (level_of entries b)))
        (and_from (marked marks b) (lower below entries a b) into low)

    module _ (ground : lowest (ungrounded below p (marked marks) entries) p.atoms ≡ None) where
      is_grounded : (a : ℕ) → marked marks a ≡ true → grounded below p (marked marks) entries a ≡ true
      is_grounded a into =
          ⊎_elim
          (λ e. absurd (both_ways (marked marks a) e into))
          (λ e. not-false (grounded below p (marked marks) entries a) e)
          (and_cases (marked marks a) (not (grounded below p (marked marks) entries a)) (none_from_lowest (ungrounded below p (marked marks) entries) p.atoms ground a (marked_above marks a into) (omega (arith, marked_upto marks a into))))

      module _ (other : Atoms) (closed : AllByRecursion (λ r. stays (marked marks) r ≡ true → Heeds other r) p.rules) where
        -- a rule that supports a by lower atoms, where those are in the other set
        supported : (a : ℕ) → ((b : ℕ) → marked marks b ≡ true → lower below entries a b ≡ true → other b ≡ true) → (r : Rule) → (stays (marked marks) r ≡ true → Heeds other r) → supports_with (lower below entries a) (marked marks) a r ≡ true → other a ≡ true
        supported a lower_in r heeds supports =
            let outer = and_parts (eqb r.head a) (marked marks a && (body (marked marks) r && all (lower below entries a) r.positive)) supports in
            let inner = and_parts (marked marks a) (body (marked marks) r && all (lower below entries a) r.positive) outer.1 in
            let rest = and_parts (body (marked marks) r) (all (lower below entries a) r.positive) inner.1 in
            let holds = and_parts (all (marked marks) r.positive) (not (any (marked marks) r.negative)) rest.0 in
            let same : r.head ≡ a = eqb-true r.head a outer.0 in
            let stay : stays (marked marks) r ≡ true =
            and_from (not (eqb r.head 0)) (not (any (marked marks) r.negative)) (not_from_false (eqb r.head 0) (ne_eqb r.head 0 (λ z. omega (arith, marked_above marks a inner.0)))) holds.1 in
            let positive : all other r.positive ≡ true =
            all_from_each other r.positive
            (All-weaker (λ b. (marked marks b ≡ true) × (lower below entries a b ≡ true)) (λ b. other b ≡ true) (λ b h. lower_in b h.0 h.1) r.positive
            (all_both (λ b. marked marks b ≡ true) (λ b. lower below entries a b ≡ true) r.positive (each_from_all (marked marks) r.positive holds.0) (each_from_all (lower below entries a) r.positive rest.1))) in
            ap other (sym same) ∙ heeds stay positive

        -- by induction on a bound of the depth
        within_bound : (bound a : ℕ) → depth a < bound → marked marks a ≡ true → other a ≡ true
        within_bound zero a low into = absurd (omega arith)
        within_bound (suc bound) a low into =
            given_by_any (supports_with (lower below entries a) (marked marks) a) p.rules (is_grounded a into)
            (All-weaker (λ r. stays (marked marks) r ≡ true → Heeds other r) (λ r. supports_with (lower below entries a) (marked marks) a r ≡ true → other a ≡ true)
            (supported a (λ b in' under'. within_bound bound b (omega (arith, depth_less a b in' under')) in')) p.rules closed)

    -- no rule broken and no marked atom ungrounded
    pub accepted_is_stable : lowest_broken p (marked marks) ≡ None → lowest (ungrounded below p (marked marks) entries) p.atoms ≡ None → Stable p (marked marks)
    accepted_is_stable whole ground = record {
      least = (
        closed_from_rules (marked marks) (marked marks) p.rules (All-weaker (λ r. broken (marked marks) r ≡ false) (λ r. stays (marked marks) r ≡ true → Heeds (marked marks) r) (heeds_unbroken (marked marks)) p.rules (none_broken p (marked marks) whole)),
        λ other closed a into. within_bound ground other (rules_from_closed (marked marks) other p.rules closed) (depth a + 1) a (omega arith) into,
      );
      constraints = any_from_none (broken_constraint (marked marks)) p.rules (All-weaker (λ r. broken (marked marks) r ≡ false) (λ r. broken_constraint (marked marks) r ≡ false) (unbroken_constraint (marked marks)) p.rules (none_broken p (marked marks) whole));
    }
