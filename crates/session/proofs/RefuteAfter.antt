-- A refute straight after settle answered that atoms are left over accepts, with their number. Assumes nothing.
use Rattle.std.proofs.Common.{◌≡◌, ℕ, suc, true, false, not, eqb, List, length, is_some, Some, None, Ok, Option, option_map, unwrap_or, refl, ap, ◌∙◌, ⊎_elim, arith}
use Rattle.std.specs.List.{AllByRecursion}
use Rattle.std.proofs.ByRecursion.{All-weaker}
use Rattle.std.proofs.Math.Path.{fun_ext}
use Rattle.std.proofs.lemmas.Bool.{and_cases, and_left, and_parts, and_right, both_ways, cases_Bool, cond-false, false_from_ne_true, ne_eqb, not-false, not-true}
use Rattle.refusal.specs.Tables.{both_checked, length_checked}
use Rattle.refusal.proofs.Checks.{both_passed}
use Rattle.rules.specs.Program.{Rule, Program}
use Rattle.rules.specs.Questions.{rule_at}
use Rattle.rules.specs.Stable.{Atoms, supports_with}
use Rattle.rules.proofs.Parts.{OfRule, of_rule_at}
use Rattle.rules.proofs.Tests.{all_both, all_from_each, each_from_all, each_from_none, lowest_none}
use Rattle.marks.specs.Calls.{bytes_checked, marks_checked}
use Rattle.marks.specs.Marks.{doubted, lowest_unlawful, marked}
use Rattle.rankings.specs.Laws.{Known}
use Rattle.rankings.specs.Rounds.{left_count, left_over, taken}
use Rattle.rankings.proofs.Rounds.{enough}
use Rattle.rankings.proofs.Supported.{positive_from_body, supports_parts, supports_with_from, supports_with_parts}
use Rattle.settlement.proofs.Cases.{LoopedCase, outcome}
use Rattle.rounds.proofs.Numbers.{marked_known}
use Rattle.settlement.proofs.MarksAfter.{doubted_after, lawful_after, lawful_where, length_after, marked_after, sized_where}
use Rattle.refutation.specs.Refute.{by_escape, escape_of, escapes, freeing_rule, frees, frees_at, lowest_escape, refutation, refuted, unless_refused}
use Rattle.refutation.specs.declared.Refutation.TheVariants.{Undoubted, Accepted}

module _ (p : Program) (set : Atoms) (known : Known p set) where
  taken_unless_left : (b : ℕ) → (set b ≡ true) × (not (left_over p set b) ≡ true) → taken p set p.atoms b ≡ true
  taken_unless_left b h =
      ⊎_elim
      (λ out. absurd (both_ways (set b) out h.0))
      (λ e. not-false (taken p set p.atoms b) e)
      (and_cases (set b) (not (taken p set p.atoms b)) (not-true (left_over p set b) h.1))

  module _ (a : ℕ) where
    -- a rule that supports an atom without a positive atom that is left over does so with each of them taken
    supports_taken : (r : Rule) → frees set (left_over p set) a r ≡ true → supports_with (taken p set p.atoms) set a r ≡ true
    supports_taken r h =
        let parts = supports_with_parts set a r (λ b. not (left_over p set b)) h in
        supports_with_from set a r (taken p set p.atoms) parts.0
        (all_from_each (taken p set p.atoms) r.positive
        (All-weaker (λ b. (set b ≡ true) × (not (left_over p set b) ≡ true)) (λ b. taken p set p.atoms b ≡ true) taken_unless_left r.positive
        (all_both (λ b. set b ≡ true) (λ b. not (left_over p set b) ≡ true) r.positive
        (each_from_all set r.positive (positive_from_body set r (supports_parts set a r parts.0).2))
        (each_from_all (λ b. not (left_over p set b)) r.positive parts.1))))

    untaken_next : left_over p set a ≡ true → taken p set (suc p.atoms) a ≡ false
    untaken_next left =
        let out = not-true (taken p set p.atoms a) (and_parts (set a) (not (taken p set p.atoms a)) left).1 in
        false_from_ne_true (taken p set (suc p.atoms) a) (λ h. both_ways (taken p set p.atoms a) out (enough p set known (suc p.atoms) a h))

    each_frees_none : left_over p set a ≡ true → AllByRecursion (λ r. frees set (left_over p set) a r ≡ false) p.rules
    each_frees_none left =
        All-weaker (λ r. supports_with (taken p set p.atoms) set a r ≡ false) (λ r. frees set (left_over p set) a r ≡ false)
        (λ r out. false_from_ne_true (frees set (left_over p set) a r) (λ h. both_ways (supports_with (taken p set p.atoms) set a r) out (supports_taken r h)))
        p.rules (each_from_none (supports_with (taken p set p.atoms) set a) p.rules (untaken_next left))

    frees_none_there : (r : Option Rule) → OfRule (λ r. frees set (left_over p set) a r ≡ false) r → unwrap_or (option_map (frees set (left_over p set) a) r) false ≡ false
    frees_none_there None h = refl
    frees_none_there (Some r) h = h

    none_frees : left_over p set a ≡ true → freeing_rule p set (left_over p set) a ≡ None
    none_frees left =
        lowest_none (frees_at p set (left_over p set) a) (length p.rules)
        (λ k low high. frees_none_there (rule_at p k) (of_rule_at (λ r. frees set (left_over p set) a r ≡ false) p k (each_frees_none left)))

    stays_left : escapes p set (left_over p set) a ≡ false
    stays_left =
        ⊎_elim
        (λ left. and_right (left_over p set a) (is_some (freeing_rule p set (left_over p set) a)) (ap is_some (none_frees left)))
        (λ none. and_left (left_over p set a) (is_some (freeing_rule p set (left_over p set) a)) none)
        (cases_Bool (left_over p set a))

  -- what refute answers of the atoms that are left over
  left_refutes : (others : ℕ) → left_count p set ≡ suc others → refutation p set (left_over p set) ≡ Accepted (suc others)
  left_refutes others left =
      cond-false (eqb (left_count p set) 0) Undoubted (by_escape p (left_over p set) (lowest_escape p set (left_over p set))) (ne_eqb (left_count p set) 0 (λ z. omega arith))
      ∙ ap (λ o. by_escape p (left_over p set) (escape_of p set (left_over p set) o)) (lowest_none (escapes p set (left_over p set)) p.atoms (λ a low high. stays_left a))
      ∙ ap Accepted left

module _ {L : Type 0} (count : ℕ) (rung : ℕ → L) (p : Program) (marks : List ℕ) (entries : List (Option L)) (rounds : List ℕ) (c : LoopedCase count rung p marks entries rounds) where
  abbrev after : List ℕ
  after = (outcome count rung p marks entries rounds).marks

  fits : marks_checked p.atoms after ≡ Ok tt
  fits =
      ap (λ r. both_checked r (bytes_checked (lowest_unlawful after))) (ap (length_checked p.atoms) (length_after count rung p marks entries rounds) ∙ (both_passed _ _ c.worked.fits).0)
      ∙ ap bytes_checked (lawful_after count rung p marks entries rounds (lawful_where count rung p marks entries rounds c.worked))

  pub refute_accepts : refuted p (outcome count rung p marks entries rounds).marks ≡ Ok (Accepted (suc c.others))
  refute_accepts =
      ap (λ checked. unless_refused checked (refutation p (marked after) (doubted after))) fits
      ∙ ap (λ set. Ok (refutation p set (doubted after))) (fun_ext (marked_after count rung p marks entries rounds))
      ∙ ap (λ doubt. Ok (refutation p (marked marks) doubt)) (fun_ext (doubted_after count rung p marks entries rounds c))
      ∙ ap Ok (left_refutes p (marked marks) (marked_known p marks (sized_where count rung p marks entries rounds c.worked)) c.others c.left)
