-- Whatever tables judge accepts, the marked set is stable. Assumes nothing.
use Rattle.std.proofs.Common.{◌≡◌, ℕ, Bool, List, length, Some, None, Ok, Err, Option, Result, refl}
use Rattle.refusal.specs.Results.{err_not_ok}
use Rattle.refusal.proofs.Checks.{both_passed, length_passed}
use Rattle.refusal.specs.declared.Refusal.{Refusal}
use Rattle.rules.specs.Program.{Program}
use Rattle.rules.specs.Tests.{lowest}
use Rattle.levels.specs.Order.{Order}
use Rattle.marks.specs.Marks.{marked}
use Rattle.support.specs.Rules.{lowest_broken}
use Rattle.verdict.specs.Judge.{unlevelled, ungrounded, by_ground, by_levels, by_rules, by_tables, tables_checked, verdict, judged, AcceptsOnlyStable}
use Rattle.verdict.specs.declared.Verdict.{Verdict}
use Rattle.verdict.specs.declared.Verdict.TheVariants.{Accepted}
use Rattle.verdict.proofs.Grounded.{accepted_is_stable}

module _ {L : Type 0} (below : L → L → Bool) (p : Program) (marks : List ℕ) (entries : List (Option L)) (m : ℕ) where
  -- every marked atom is grounded
  Grounded : Type 0
  Grounded = lowest (ungrounded below p (marked marks) entries) p.atoms ≡ None

  at_ground : (o : Option ℕ) → lowest (ungrounded below p (marked marks) entries) p.atoms ≡ o → by_ground below p (marked marks) entries o ≡ Accepted m → Grounded
  unfolding Grounded
  at_ground None is h = is
  at_ground (Some a) is h = absurd cc

  at_levels : (o : Option ℕ) → by_levels below p (marked marks) entries o ≡ Accepted m → Grounded
  at_levels None h = at_ground (lowest (ungrounded below p (marked marks) entries) p.atoms) refl h
  at_levels (Some a) h = absurd cc

  at_rules : (o : Option ℕ) → lowest_broken p (marked marks) ≡ o → by_rules below p (marked marks) entries o ≡ Accepted m → (lowest_broken p (marked marks) ≡ None) × Grounded
  at_rules None is h = (is, at_levels (lowest (unlevelled below (marked marks) entries) p.atoms) h)
  at_rules (Some k) is h = absurd cc

module _ {L : Type 0} (below : L → L → Bool) (p : Program) (marks : List ℕ) (entries : List (Option L)) (v : Verdict) where
  -- judge gives a verdict on tables that are not refused
  by_checked : (checked : Result (Unit {0}) Refusal) → tables_checked p.atoms marks (length entries) ≡ checked → by_tables below p (marked marks) entries checked ≡ Ok v → (length marks ≡ p.atoms) × (verdict below p (marked marks) entries ≡ v)
  by_checked (Err e) is h = absurd (err_not_ok h)
  by_checked (Ok u) is h = (length_passed p.atoms (length marks) (both_passed _ _ is).0, cc)

pub judged_is_stable : {L : Type 0} (below : L → L → Bool) (count : ℕ) (rung : ℕ → L) → Order below count rung → (p : Program) (marks : List ℕ) (entries : List (Option L)) → AcceptsOnlyStable p (marked marks) (judged below p marks entries)
unfolding Grounded
judged_is_stable below count rung laws p marks entries m h =
    let checked = by_checked below p marks entries (Accepted m) (tables_checked p.atoms marks (length entries)) refl h in
    let found = at_rules below p marks entries m (lowest_broken p (marked marks)) refl checked.1 in
    accepted_is_stable below laws.irrefl laws.trans p marks entries checked.0 found.0 found.1
