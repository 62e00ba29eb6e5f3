-- What refute accepts is no stable set. Assumes nothing.
use Rattle.std.proofs.Common.{◌≡◌, ℕ, ◌≤◌, Bool, true, false, cond, not, ◌&&◌, eqb, List, length, is_some, Some, None, Ok, Err, Option, Result, option_map, unwrap_or, refl, sym, ap, ◌∙◌, ⊎_elim, arith}
use Rattle.std.specs.List.{AllByRecursion}
use Rattle.std.proofs.ByRecursion.{All-weaker}
use Rattle.std.proofs.lemmas.Bool.{and_cases, and_from, and_parts, both_ways, false_from_ne_true, eq-eqb, eqb-false, not-true, not_from_false}
use Rattle.refusal.specs.Results.{err_not_ok, some_not_none}
use Rattle.refusal.proofs.Checks.{both_passed, length_passed}
use Rattle.refusal.specs.declared.Refusal.{Refusal}
use Rattle.rules.specs.Program.{Rule, Program}
use Rattle.rules.specs.Stable.{Atoms, Stable, body, stays}
use Rattle.rules.specs.Tests.{all, any, lowest, tally}
use Rattle.rules.proofs.Parts.{each_rule}
use Rattle.rules.proofs.Reduct.{Heeds, closed_from_rules, rules_from_closed}
use Rattle.rules.proofs.Tests.{all_both, all_grows, none_from_lowest, tally_some}
use Rattle.marks.specs.Calls.{marks_checked}
use Rattle.marks.specs.Marks.{doubted, marked}
use Rattle.marks.proofs.Marked.{doubted_marked, marked_above, marked_upto}
use Rattle.refutation.specs.Refute.{frees, frees_at, freeing_rule, escapes, escape_of, lowest_escape, by_escape, refutation, unless_refused, refuted, AcceptsNoStable}
use Rattle.refutation.specs.declared.Escape.{Escape}
use Rattle.refutation.specs.declared.Refutation.{Refutation}
use Rattle.refutation.specs.declared.Refutation.TheVariants.{Undoubted, Accepted}

none_from_absent : {X : Type 0} (o : Option X) → is_some o ≡ false → o ≡ None
none_from_absent None h = refl
none_from_absent (Some x) h = absurd (both_ways true h refl)

module _ (marks : List ℕ) where
  -- the marked atoms that are not doubted
  abbrev undoubted : Atoms
  undoubted a = marked marks a && not (doubted marks a)

  -- the rule supports no doubted atom without a doubted positive atom
  abbrev FreesNone : Rule → Type 0
  FreesNone r = (a : ℕ) → doubted marks a ≡ true → frees (marked marks) (doubted marks) a r ≡ false

  head_undoubted : (r : Rule) → FreesNone r → marked marks r.head ≡ true → body (marked marks) r ≡ true → all (λ a. not (doubted marks a)) r.positive ≡ true → doubted marks r.head ≡ false
  head_undoubted r frees_none into holds positive =
      false_from_ne_true (doubted marks r.head)
      (λ d. both_ways (frees (marked marks) (doubted marks) r.head r) (frees_none r.head d)
      (and_from (eqb r.head r.head) _ (eq-eqb r.head r.head refl) (and_from (marked marks r.head) _ into (and_from (body (marked marks) r) _ holds positive))))

  -- the head of a rule that stays and whose positive atoms are marked and not doubted
  heeds_undoubted : (r : Rule) → FreesNone r × (stays (marked marks) r ≡ true → Heeds (marked marks) r) → stays (marked marks) r ≡ true → Heeds undoubted r
  heeds_undoubted r h stay positive =
      let into : all (marked marks) r.positive ≡ true = all_grows undoubted (marked marks) (λ a e. (and_parts (marked marks a) (not (doubted marks a)) e).0) r.positive positive in
      let sure : all (λ a. not (doubted marks a)) r.positive ≡ true = all_grows undoubted (λ a. not (doubted marks a)) (λ a e. (and_parts (marked marks a) (not (doubted marks a)) e).1) r.positive positive in
      let holds : body (marked marks) r ≡ true = and_from (all (marked marks) r.positive) (not (any (marked marks) r.negative)) into (and_parts (not (eqb r.head 0)) (not (any (marked marks) r.negative)) stay).1 in
      let head : marked marks r.head ≡ true = h.1 stay into in
      and_from (marked marks r.head) (not (doubted marks r.head)) head (not_from_false (doubted marks r.head) (head_undoubted r h.0 head holds sure))

module _ (p : Program) (marks : List ℕ) (sized : length marks ≡ p.atoms) (none : lowest (escapes p (marked marks) (doubted marks)) p.atoms ≡ None) where
  unfreed : (a : ℕ) → doubted marks a ≡ true → freeing_rule p (marked marks) (doubted marks) a ≡ None
  unfreed a d =
      let into = doubted_marked marks a d in
      let within : a ≤ p.atoms = omega (arith, marked_upto marks a into) in
      ⊎_elim
      (λ e. absurd (both_ways (doubted marks a) e d))
      (λ e. none_from_absent (freeing_rule p (marked marks) (doubted marks) a) e)
      (and_cases (doubted marks a) (is_some (freeing_rule p (marked marks) (doubted marks) a)) (none_from_lowest (escapes p (marked marks) (doubted marks)) p.atoms none a (marked_above marks a into) within))

  each_frees_none : AllByRecursion (FreesNone marks) p.rules
  each_frees_none =
      each_rule (FreesNone marks) p
      (λ k r at some within a d. sym (ap (λ o. unwrap_or (option_map (frees (marked marks) (doubted marks) a) o) false) at) ∙ none_from_lowest (frees_at p (marked marks) (doubted marks) a) (length p.rules) (unfreed a d) k some within)

  -- some atom is doubted, and no doubted atom escapes
  pub accepted_is_not_stable : (a : ℕ) × (doubted marks a ≡ true) → Stable p (marked marks) → ⊥
  accepted_is_not_stable some stable =
      let heeds = All-weaker (λ r. FreesNone marks r × (stays (marked marks) r ≡ true → Heeds (marked marks) r)) (λ r. stays (marked marks) r ≡ true → Heeds (undoubted marks) r) (heeds_undoubted marks) p.rules
      (all_both (FreesNone marks) (λ r. stays (marked marks) r ≡ true → Heeds (marked marks) r) p.rules each_frees_none (rules_from_closed (marked marks) (marked marks) p.rules stable.least.0)) in
      let sure = stable.least.1 (undoubted marks) (closed_from_rules (marked marks) (undoubted marks) p.rules heeds) some.0 (doubted_marked marks some.0 some.1) in
      both_ways (doubted marks some.0) (not-true (doubted marks some.0) (and_parts (marked marks some.0) (not (doubted marks some.0)) sure).1) some.1

at_count : (m : ℕ) (zero : Bool) (answer : Refutation) → cond zero Undoubted answer ≡ Accepted m → (zero ≡ false) × (answer ≡ Accepted m)
at_count m true answer h = absurd (let z : ◌≡◌ {A = ℕ} 0 1 = cc in omega arith)
at_count m false answer h = (refl, h)

module _ (p : Program) (marks : List ℕ) where
  at_escape : (m : ℕ) (o : Option Escape) → by_escape p (doubted marks) o ≡ Accepted m → o ≡ None
  at_escape m None h = refl
  at_escape m (Some e) h = absurd (let z : ◌≡◌ {A = ℕ} 0 1 = cc in omega arith)

  none_escapes : (o : Option ℕ) → escape_of p (marked marks) (doubted marks) o ≡ None → o ≡ None
  none_escapes None h = refl
  none_escapes (Some a) h = absurd (some_not_none h)

  -- refute answers on marks that are not refused
  by_checked : (r : Refutation) (checked : Result (Unit {0}) Refusal) → marks_checked p.atoms marks ≡ checked → unless_refused checked (refutation p (marked marks) (doubted marks)) ≡ Ok r → (length marks ≡ p.atoms) × (refutation p (marked marks) (doubted marks) ≡ r)
  by_checked r (Err e) is h = absurd (err_not_ok h)
  by_checked r (Ok u) is h = (length_passed p.atoms (length marks) (both_passed _ _ is).0, cc)

  pub refuted_is_not_stable : AcceptsNoStable p (marked marks) (refuted p marks)
  refuted_is_not_stable m h =
      let checked = by_checked (Accepted m) (marks_checked p.atoms marks) refl h in
      let counted = at_count m (eqb (tally (doubted marks) p.atoms) 0) (by_escape p (doubted marks) (lowest_escape p (marked marks) (doubted marks))) checked.1 in
      let none = none_escapes (lowest (escapes p (marked marks) (doubted marks)) p.atoms) (at_escape m (lowest_escape p (marked marks) (doubted marks)) counted.1) in
      let some = tally_some (doubted marks) p.atoms (omega (arith, eqb-false (tally (doubted marks) p.atoms) 0 counted.0)) in
      accepted_is_not_stable p marks checked.0 none (some.0, some.3)
