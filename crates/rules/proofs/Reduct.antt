-- What is closed under a reduct, said of the program's own rules. Assumes nothing.
use Rattle.std.proofs.Common.{◌≡◌, true, false, not, ◌||◌, eqb, List, filter, ⊎_elim}
use Rattle.std.specs.List.{AllByRecursion}
use Rattle.std.proofs.ByRecursion.{All-map}
use Rattle.std.proofs.lemmas.Bool.{and_cases, and_from, and_left, and_parts, and_right, both_ways, or_parts, not-false}
use Rattle.rules.specs.Program.{Rule}
use Rattle.rules.specs.Stable.{Atoms, Closed, body, broken, broken_constraint, reduct, stays, without_negative}
use Rattle.rules.specs.Tests.{all, any}
use Rattle.rules.proofs.Tests.{all_kept_by_from, each_from_kept_by, each_from_map}

-- where the rule's positive atoms are in the set, so is its head
abbrev pub Heeds : Atoms → Rule → Type 0
Heeds set r = all set r.positive ≡ true → set r.head ≡ true

module _ (set other : Atoms) (rules : List Rule) where
  pub closed_from_rules : AllByRecursion (λ r. stays set r ≡ true → Heeds other r) rules → Closed (reduct set rules) other
  closed_from_rules h = All-map (Heeds other) without_negative (filter (stays set) rules) (all_kept_by_from (stays set) (Heeds other) rules h)

  pub rules_from_closed : Closed (reduct set rules) other → AllByRecursion (λ r. stays set r ≡ true → Heeds other r) rules
  rules_from_closed h = each_from_kept_by (stays set) (Heeds other) rules (each_from_map (Heeds other) without_negative (filter (stays set) rules) h)

module _ (set : Atoms) (r : Rule) where
  -- a rule that is not broken and stays in the reduct
  pub heeds_unbroken : broken set r ≡ false → stays set r ≡ true → Heeds set r
  heeds_unbroken whole stay positive =
      let parts = and_parts (not (eqb r.head 0)) (not (any set r.negative)) stay in
      let holds : body set r ≡ true = and_from (all set r.positive) (not (any set r.negative)) positive parts.1 in
      ⊎_elim
      (λ e. absurd (both_ways (body set r) e holds))
      (λ e. not-false (set r.head) (or_parts (eqb r.head 0) (not (set r.head)) e).1)
      (and_cases (body set r) (eqb r.head 0 || not (set r.head)) whole)

  pub unbroken_constraint : broken set r ≡ false → broken_constraint set r ≡ false
  unbroken_constraint whole =
      ⊎_elim
      (λ e. and_right (eqb r.head 0) (body set r) e)
      (λ e. and_left (eqb r.head 0) (body set r) (or_parts (eqb r.head 0) (not (set r.head)) e).0)
      (and_cases (body set r) (eqb r.head 0 || not (set r.head)) whole)
