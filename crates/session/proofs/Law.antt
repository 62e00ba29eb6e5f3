-- What holds of a survey after every list of calls. Assumes nothing.
use Rattle.std.proofs.Common.{◌≡◌, ℕ, Bool, true, false, cond, not, eqb, List, [], ◌∷◌, length, is_ok, Some, None, Ok, Err, unwrap_or, suc, sym, refl, ap, ◌∙◌, subst, ◌⊎◌, inl, inr, ⊎_elim}
use Rattle.std.proofs.Math.Path.{fun_ext}
use Rattle.refusal.specs.Refused.{refused}
use Rattle.refusal.specs.Tables.{both_checked}
use Rattle.refusal.specs.declared.Layer.TheVariants.{Survey}
use Rattle.refusal.specs.declared.Reason.TheVariants.{Unmarked}
use Rattle.refusal.specs.declared.Refusal.{Refusal}
use Rattle.refusal.proofs.Checks.{ok_passed}
use Rattle.rules.specs.Program.{Program}
use Rattle.rules.specs.Stable.{Atoms}
use Rattle.rules.specs.Tests.{tally}
use Rattle.levels.specs.Order.{Order}
use Rattle.marks.specs.Calls.{marks_checked, named_checked}
use Rattle.marks.specs.Marks.{doubted, marked, with_turned}
use Rattle.marks.proofs.Written.{marked_turned, named_within}
use Rattle.rankings.specs.Laws.{NoneBroken}
use Rattle.rankings.specs.Rounds.{rounds_needed}
use Rattle.refutation.specs.Refute.{AcceptsNoStable, refutation, refuted, unless_refused}
use Rattle.refutation.proofs.Unstable.{refuted_is_not_stable}
use Rattle.settlement.specs.Laws.{SaysOfRankings}
use Rattle.settlement.specs.Settle.{by_tables as settled_by, tables_checked as settle_checked}
use Rattle.settlement.proofs.Cases.{Worked, err_from, worked_cases}
use Rattle.settlement.proofs.Laws.{says_of_rankings}
use Rattle.support.proofs.Broken.{unbroken_lowest}
use Rattle.verdict.specs.Judge.{AcceptsOnlyStable, by_tables, judged, tables_checked}
use Rattle.verdict.proofs.Accepted.{judged_is_stable}
use Rattle.session.specs.Law.{AsksOver, HoldsAfterAll, HoldsOver, LoopedThenRefuted, RankedThenJudged, SettlesOver, settled_on}
use Rattle.session.specs.Marked.{Event, events_of, last_said, later_else, marked_by, reversed, said, set_inside}
use Rattle.session.specs.Run.{Tables, after_all, after_call, answer_to, tried}
use Rattle.session.proofs.Agrees.{Agrees, after_event, agrees_after}
use Rattle.session.proofs.JudgeAfter.{judge_accepts}
use Rattle.session.proofs.RefuteAfter.{refute_accepts}

-- the first event of a list may be told by the set that it leaves
first_event : {L : Type 0} (start : Atoms) (e : Event L) (later : List (Event L)) → marked_by (after_event start e) later ≡ marked_by start (e ∷ later)
first_event start e later = fun_ext (λ a. elim (last_said later a) as (λ last. unwrap_or last (unwrap_or (said e a) (start a)) ≡ unwrap_or (later_else last (said e a)) (start a)) [ Some b ↦ refl | None ↦ refl ])

module _ {L : Type 0} (below : L → L → Bool) (count : ℕ) (rung : ℕ → L) (laws : Order below count rung) (p : Program) where
  module _ (set : Atoms) (t : Tables L) (shown : (a : ℕ) → marked t.marks a ≡ set a) where
    same : marked t.marks ≡ set
    same = fun_ext shown

    asks_over : AsksOver below count rung p set t
    asks_over = record {
      shown = shown;
      judge_over = ap (λ s. by_tables below p s t.entries (tables_checked p.atoms t.marks (length t.entries))) same;
      refute_over = ap (λ s. unless_refused (marks_checked p.atoms t.marks) (refutation p s (doubted t.marks))) same;
      judge_accepts_only_stable = subst (λ s. AcceptsOnlyStable p s (judged below p t.marks t.entries)) same (judged_is_stable below count rung laws p t.marks t.entries);
      refute_accepts_no_stable = subst (λ s. AcceptsNoStable p s (refuted p t.marks)) same (refuted_is_not_stable p t.marks);
    }

    module _ (rounds : List ℕ) where
      Fits : Type 0
      Fits = settle_checked p.atoms t.marks (length t.entries) (length rounds) ≡ Ok tt

      worked : Fits → NoneBroken p set → Worked count rung p t.marks t.entries rounds
      unfolding Fits
      worked fits whole = record { fits = fits; whole = unbroken_lowest p (marked t.marks) (subst (NoneBroken p) (sym same) whole) }

      one_of_three : Worked count rung p t.marks t.entries rounds → RankedThenJudged below count rung p (settled_on below count rung p t rounds) ⊎ (LoopedThenRefuted below count rung p (settled_on below count rung p t rounds) ⊎ ((e : Refusal) × ((settled_on below count rung p t rounds).answer ≡ Err e)))
      one_of_three w =
          ⊎_elim
          (λ c. inr (inl (suc c.others, ap (λ s. s.answer) c.is, refute_accepts count rung p t.marks t.entries rounds c)))
          (⊎_elim
          (λ c. inl (rounds_needed p (marked t.marks), ap (λ s. s.answer) c.is, (tally (marked t.marks) p.atoms, judge_accepts below count rung laws p t.marks t.entries rounds c)))
          (λ c. inr (inr (err_from count rung p t.marks t.entries rounds c))))
          (worked_cases count rung p t.marks t.entries rounds w)

      settles_over : SettlesOver below count rung p set t rounds
      unfolding Fits
      settles_over = record {
        settle_over = ap (λ s. settled_by count rung p s t.marks t.entries rounds (settle_checked p.atoms t.marks (length t.entries) (length rounds))) same;
        one_of_three = λ fits whole. one_of_three (worked fits whole);
        says_of_rankings = subst (λ s. SaysOfRankings count p s (settle_checked p.atoms t.marks (length t.entries) (length rounds)) (settled_on below count rung p t rounds).answer (settled_on below count rung p t rounds).rounds) same (says_of_rankings count rung p t.marks t.entries rounds);
      }

  -- the marked set inside a trial
  module _ (set : Atoms) (marks : List ℕ) (shown : (a : ℕ) → marked marks a ≡ set a) (a : ℕ) where
    shown_inside : (ok : Bool) → is_ok (named_checked p.atoms marks a) ≡ ok → (b : ℕ) → marked (cond ok (with_turned marks a) marks) b ≡ cond ok (reversed set a) set b
    shown_inside true ok b =
        let there = named_within p.atoms marks a (ok_passed (named_checked p.atoms marks a) ok) in
        marked_turned marks a b there.0 there.1
        ∙ ap (λ x. cond (eqb b a) (not x) (marked marks b)) (shown a)
        ∙ ap (λ x. cond (eqb b a) (not (set a)) x) (shown b)
    shown_inside false ok b = shown b

  holds_over : (set : Atoms) (t : Tables L) → Agrees set t.marks → HoldsOver below count rung p set t
  holds_over set t agrees = record {
    lawful = agrees.lawful;
    asks = asks_over set t agrees.shown;
    doubt_over = λ a. ap (λ (s : Atoms). both_checked (named_checked p.atoms t.marks a) (cond (s a) (Ok tt) (Err (refused Survey Unmarked a)))) (same set t agrees.shown);
    settles = settles_over set t agrees.shown;
    asks_inside = λ a. asks_over (set_inside below count rung p set t a) (tried below count rung p t a) (shown_inside set t.marks agrees.shown a (is_ok (named_checked p.atoms t.marks a)) refl);
  }

  -- the law, by the first call
  pub holds_after_all : (start : Atoms) (made : Tables L) → Agrees start made.marks → HoldsAfterAll below count rung p start made
  holds_after_all start made agrees [] loans = holds_over start made agrees
  holds_after_all start made agrees (c ∷ calls) [] = holds_over start made agrees
  holds_after_all start made agrees (c ∷ calls) (k ∷ loans) =
      let e : Event L = record { call = c; answer = answer_to below count rung p made k.rounds.now c } in
      let next : Tables L = after_call below count rung p made k.rounds.now c in
      subst (λ s. HoldsOver below count rung p s (after_all below count rung p next calls loans))
      (first_event start e (events_of below count rung p next calls loans))
      (holds_after_all (after_event start e) next (agrees_after below count rung p start made k.rounds.now agrees c) calls loans)
