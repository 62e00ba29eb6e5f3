-- The ways in which settle ends: refused, broken, looped, out of rungs, ranked. Assumes nothing.
use Rattle.std.proofs.Common.{◌≡◌, ℕ, zero, suc, ◌≤◌, ◌<◌, List, length, Some, None, Ok, Err, Option, Result, ◌≢◌, sym, refl, ap, ◌∙◌, ◌⊎◌, inl, inr, ⊎_elim, arith, nat_lt}
use Rattle.std.proofs.lemmas.Bool.{cases_Bool, ne_eqb}
use Rattle.std.proofs.lemmas.Bool.Decides.{nat_tests}
use Rattle.refusal.specs.Refused.{refused}
use Rattle.refusal.specs.declared.Reason.TheVariants.{Rounds}
use Rattle.refusal.specs.declared.Layer.TheVariants.{Survey}
use Rattle.refusal.specs.declared.Refusal.{Refusal}
use Rattle.rules.specs.Program.{Program}
use Rattle.marks.specs.Marks.{marked}
use Rattle.rankings.specs.Rounds.{left_count, rounds_needed}
use Rattle.support.specs.Rules.{lowest_broken}
use Rattle.settlement.specs.Settle.{Settled, all_rounds, by_left, by_rules, by_rungs, by_tables, ranked_entries, settled, sifted_marks, tables_checked}
use Rattle.settlement.specs.declared.Settlement.{Settlement}
use Rattle.settlement.specs.declared.Settlement.TheVariants.{Broken, Ranked, Looped}

-- a number for each sort of answer
abbrev kind_of : Result Settlement Refusal → ℕ
kind_of (Ok (Broken k)) = 0
kind_of (Ok (Ranked k)) = 1
kind_of (Ok (Looped m)) = 2
kind_of (Err e) = 3

kind_differs : {x y : Result Settlement Refusal} → x ≡ y → kind_of x ≢ kind_of y → ⊥
kind_differs e not = not (ap kind_of e)

module _ {L : Type 0} (count : ℕ) (rung : ℕ → L) (p : Program) (marks : List ℕ) (entries : List (Option L)) (rounds : List ℕ) where
  abbrev pub outcome : Settled L
  outcome = settled count rung p marks entries rounds

  -- no table is refused, and no rule is broken
  pub record Worked : Type 0 where
    pub fits : tables_checked p.atoms marks (length entries) (length rounds) ≡ Ok tt
    pub whole : lowest_broken p (marked marks) ≡ None

  pub record RankedCase : Type 0 where
    pub worked : Worked
    pub none_left : left_count p (marked marks) ≡ 0
    pub enough : rounds_needed p (marked marks) ≤ count
    pub is : outcome ≡ record { answer = Ok (Ranked (rounds_needed p (marked marks))); marks = marks; entries = ranked_entries count rung p (marked marks) marks entries; rounds = all_rounds count rung p (marked marks) marks entries }

  pub record TooFewCase : Type 0 where
    pub worked : Worked
    pub none_left : left_count p (marked marks) ≡ 0
    pub above : count < rounds_needed p (marked marks)
    pub is : outcome ≡ record { answer = Err (refused Survey Rounds (rounds_needed p (marked marks))); marks = marks; entries = entries; rounds = all_rounds count rung p (marked marks) marks entries }

  pub record LoopedCase : Type 0 where
    pub worked : Worked
    pub others : ℕ
    pub left : left_count p (marked marks) ≡ suc others
    pub is : outcome ≡ record { answer = Ok (Looped (suc others)); marks = sifted_marks count rung p (marked marks) marks entries; entries = entries; rounds = all_rounds count rung p (marked marks) marks entries }

  module _ (w : Worked) where
    pub at_left : outcome ≡ by_left count rung p (marked marks) marks entries (left_count p (marked marks))
    at_left = ap (by_tables count rung p (marked marks) marks entries rounds) w.fits ∙ ap (by_rules count rung p (marked marks) marks entries rounds) w.whole

    -- where no atom is left over
    at_rungs : left_count p (marked marks) ≡ 0 → outcome ≡ by_rungs count rung p (marked marks) marks entries (rounds_needed p (marked marks))
    at_rungs none = at_left ∙ ap (by_left count rung p (marked marks) marks entries) none

    by_count : left_count p (marked marks) ≡ 0 → RankedCase ⊎ TooFewCase
    by_count none =
        ⊎_elim
        (λ few. inr (record { worked = w; none_left = none; above = grind (arith, nat_tests, few); is = at_rungs none ∙ rw few refl }))
        (λ enough. inl (record { worked = w; none_left = none; enough = grind (arith, nat_tests, enough); is = at_rungs none ∙ rw enough refl }))
        (cases_Bool (nat_lt count (rounds_needed p (marked marks))))

    by_those_left : (left : ℕ) → left_count p (marked marks) ≡ left → LoopedCase ⊎ (RankedCase ⊎ TooFewCase)
    by_those_left zero none = inr (by_count none)
    by_those_left (suc others) some = inl (record { worked = w; others = others; left = some; is = at_left ∙ ap (by_left count rung p (marked marks) marks entries) some ∙ rw (ne_eqb (suc others) 0 (λ z. omega arith)) refl })

    -- where work is done
    pub worked_cases : LoopedCase ⊎ (RankedCase ⊎ TooFewCase)
    worked_cases = by_those_left (left_count p (marked marks)) refl

  -- a table is refused
  pub record RefusedCase : Type 0 where
    pub reason : Refusal
    pub unfit : tables_checked p.atoms marks (length entries) (length rounds) ≡ Err reason
    pub is : outcome ≡ record { answer = Err reason; marks = marks; entries = entries; rounds = rounds }

  -- a rule is broken
  pub record BrokenCase : Type 0 where
    pub rule : ℕ
    pub fits : tables_checked p.atoms marks (length entries) (length rounds) ≡ Ok tt
    pub lowest : lowest_broken p (marked marks) ≡ Some rule
    pub is : outcome ≡ record { answer = Ok (Broken rule); marks = marks; entries = entries; rounds = rounds }

  by_broken : tables_checked p.atoms marks (length entries) (length rounds) ≡ Ok tt → (rule : Option ℕ) → lowest_broken p (marked marks) ≡ rule → BrokenCase ⊎ Worked
  by_broken fits (Some k) at = inl (record { rule = k; fits = fits; lowest = at; is = ap (by_tables count rung p (marked marks) marks entries rounds) fits ∙ ap (by_rules count rung p (marked marks) marks entries rounds) at })
  by_broken fits None at = inr (record { fits = fits; whole = at })

  by_checks : (checked : Result (Unit {0}) Refusal) → tables_checked p.atoms marks (length entries) (length rounds) ≡ checked → RefusedCase ⊎ (BrokenCase ⊎ Worked)
  by_checks (Err e) at = inl (record { reason = e; unfit = at; is = ap (by_tables count rung p (marked marks) marks entries rounds) at })
  by_checks (Ok u) at = inr (by_broken at (lowest_broken p (marked marks)) refl)

  pub all_cases : RefusedCase ⊎ (BrokenCase ⊎ Worked)
  all_cases = by_checks (tables_checked p.atoms marks (length entries) (length rounds)) refl

  -- the cases by the answer
  pub when_ranked : (k : ℕ) → outcome.answer ≡ Ok (Ranked k) → RankedCase
  when_ranked k h =
      ⊎_elim
      (λ c. absurd (kind_differs (sym (ap (λ s. s.answer) c.is) ∙ h) (omega arith)))
      (⊎_elim
      (λ c. absurd (kind_differs (sym (ap (λ s. s.answer) c.is) ∙ h) (omega arith)))
      (λ w. ⊎_elim
      (λ c. absurd (kind_differs (sym (ap (λ s. s.answer) c.is) ∙ h) (omega arith)))
      (⊎_elim (λ c. c) (λ c. absurd (kind_differs (sym (ap (λ s. s.answer) c.is) ∙ h) (omega arith))))
      (worked_cases w)))
      all_cases

  pub when_looped : (m : ℕ) → outcome.answer ≡ Ok (Looped m) → LoopedCase
  when_looped m h =
      ⊎_elim
      (λ c. absurd (kind_differs (sym (ap (λ s. s.answer) c.is) ∙ h) (omega arith)))
      (⊎_elim
      (λ c. absurd (kind_differs (sym (ap (λ s. s.answer) c.is) ∙ h) (omega arith)))
      (λ w. ⊎_elim
      (λ c. c)
      (⊎_elim
      (λ c. absurd (kind_differs (sym (ap (λ s. s.answer) c.is) ∙ h) (omega arith)))
      (λ c. absurd (kind_differs (sym (ap (λ s. s.answer) c.is) ∙ h) (omega arith))))
      (worked_cases w)))
      all_cases

  -- where work is done, the one refusal is for want of rungs
  pub err_case : Worked → (e : Refusal) → outcome.answer ≡ Err e → TooFewCase
  err_case w e h =
      ⊎_elim
      (λ c. absurd (kind_differs (sym (ap (λ s. s.answer) c.is) ∙ h) (omega arith)))
      (⊎_elim
      (λ c. absurd (kind_differs (sym (ap (λ s. s.answer) c.is) ∙ h) (omega arith)))
      (λ c. c))
      (worked_cases w)

  pub err_from : TooFewCase → (e : Refusal) × (outcome.answer ≡ Err e)
  err_from c = (refused Survey Rounds (rounds_needed p (marked marks)), ap (λ s. s.answer) c.is)
