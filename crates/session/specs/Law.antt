-- What holds of a survey after every list of calls, in terms of the marked set that is read from the calls. Assumes nothing.
use Rattle.std.specs.Prelude.{◌≡◌, ℕ, Bool, cond, List, length, None, Ok, Err, ◌⊎◌}
use Rattle.refusal.specs.Refused.{refused}
use Rattle.refusal.specs.Tables.{both_checked}
use Rattle.refusal.specs.declared.Layer.TheVariants.{Survey}
use Rattle.refusal.specs.declared.Reason.TheVariants.{Unmarked}
use Rattle.refusal.specs.declared.Refusal.{Refusal}
use Rattle.rules.specs.Program.{Program}
use Rattle.rules.specs.Stable.{Atoms}
use Rattle.marks.specs.Calls.{doubt_checked, marks_checked, named_checked}
use Rattle.marks.specs.Marks.{doubted, lowest_unlawful, marked}
use Rattle.rankings.specs.Laws.{NoneBroken}
use Rattle.refutation.specs.Refute.{AcceptsNoStable, refutation, refuted, unless_refused}
use Rattle.refutation.specs.declared.Refutation.TheVariants as refuting
use Rattle.settlement.specs.Laws.{SaysOfRankings}
use Rattle.settlement.specs.Settle.{Settled, settled}
use Rattle.settlement.specs.Settle as settling
use Rattle.settlement.specs.declared.Settlement.TheVariants as settlement
use Rattle.verdict.specs.Judge.{AcceptsOnlyStable, by_tables, judged, tables_checked}
use Rattle.verdict.specs.declared.Verdict.TheVariants as verdict
use Rattle.session.specs.Marked.{events_of, marked_by, set_inside}
use Rattle.session.specs.Run.{Tables, after_all, tried}
use Rattle.session.specs.declared.Call.{Call}
use Rattle.session.specs.declared.Loan.{Loan}

module _ {L : Type 0} (below : L → L → Bool) (count : ℕ) (rung : ℕ → L) (p : Program) where
  -- judge and refute on tables answer as they are defined over the set
  pub record AsksOver (set : Atoms) (t : Tables L) : Type 0 where
    -- the marked atoms of the table are those of the set
    pub shown : (a : ℕ) → marked t.marks a ≡ set a
    pub judge_over : judged below p t.marks t.entries ≡ by_tables below p set t.entries (tables_checked p.atoms t.marks (length t.entries))
    pub refute_over : refuted p t.marks ≡ unless_refused (marks_checked p.atoms t.marks) (refutation p set (doubted t.marks))
    -- judge accepts only when the set is stable, refute only when it is not
    pub judge_accepts_only_stable : AcceptsOnlyStable p set (judged below p t.marks t.entries)
    pub refute_accepts_no_stable : AcceptsNoStable p set (refuted p t.marks)

  -- settle ranks, and a judge straight after it accepts
  abbrev pub RankedThenJudged : Settled L → Type 0
  RankedThenJudged s = (k : ℕ) × (s.answer ≡ Ok (settlement.Ranked k)) × ((m : ℕ) × (judged below p s.marks s.entries ≡ Ok (verdict.Accepted m)))

  -- settle finds a loop, and a refute straight after it accepts with the same number
  abbrev pub LoopedThenRefuted : Settled L → Type 0
  LoopedThenRefuted s = (m : ℕ) × (s.answer ≡ Ok (settlement.Looped m)) × (refuted p s.marks ≡ Ok (refuting.Accepted m))

  -- what settle leaves of tables, with the round table that it is lent
  abbrev pub settled_on : Tables L → List ℕ → Settled L
  settled_on t rounds = settled count rung p t.marks t.entries rounds

  -- settle answers and writes as it is defined over the set
  pub record SettlesOver (set : Atoms) (t : Tables L) (rounds : List ℕ) : Type 0 where
    pub settle_over : settled_on t rounds ≡ settling.by_tables count rung p set t.marks t.entries rounds (settling.tables_checked p.atoms t.marks (length t.entries) (length rounds))
    -- on tables that are not refused, and where no rule is broken
    pub one_of_three : settling.tables_checked p.atoms t.marks (length t.entries) (length rounds) ≡ Ok tt → NoneBroken p set → RankedThenJudged (settled_on t rounds) ⊎ (LoopedThenRefuted (settled_on t rounds) ⊎ ((e : Refusal) × ((settled_on t rounds).answer ≡ Err e)))
    -- ranked: the round table is the only strict ranking of the set. Looped: there is none. Refused on such tables: exactly when the set is stable and its strict ranking has a number above the count of rungs
    pub says_of_rankings : SaysOfRankings count p set (settling.tables_checked p.atoms t.marks (length t.entries) (length rounds)) (settled_on t rounds).answer (settled_on t rounds).rounds

  -- each next call refuses, answers and writes as it is defined over the set
  pub record HoldsOver (set : Atoms) (t : Tables L) : Type 0 where
    -- no call is refused for a mark byte without a meaning
    pub lawful : lowest_unlawful t.marks ≡ None
    pub asks : AsksOver set t
    -- doubt is refused for an unmarked atom exactly where the atom is not in the set; mark, unmark, level and trial ask nothing of it
    pub doubt_over : (a : ℕ) → doubt_checked p.atoms t.marks a ≡ both_checked (named_checked p.atoms t.marks a) (cond (set a) (Ok tt) (Err (refused Survey Unmarked a)))
    pub settles : (rounds : List ℕ) → SettlesOver set t rounds
    -- and so do judge and refute in a trial that is opened next
    pub asks_inside : (a : ℕ) → AsksOver (set_inside below count rung p set t a) (tried below count rung p t a)

-- THE LAW. Let a survey be made, with these tables, and with the atoms of `start` marked by the making. Then after every list of calls, with
-- whatever each of them is lent, the tables are such that each next call refuses, answers and writes as it is defined over the marked set
-- that is read from the calls
abbrev pub HoldsAfterAll : {L : Type 0} → (L → L → Bool) → ℕ → (ℕ → L) → Program → Atoms → Tables L → Type 0
HoldsAfterAll {L} below count rung p start made = (calls : List (Call L)) (loans : List Loan) →
    HoldsOver below count rung p (marked_by start (events_of below count rung p made calls loans)) (after_all below count rung p made calls loans)
