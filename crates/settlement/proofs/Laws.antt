-- What settle's answers say of rankings. Assumes nothing.
use Rattle.std.proofs.Common.{◌≡◌, ℕ, List, length, Some, None, Ok, Err, Option, Result, sym, ap, ◌∙◌, subst, ⊎_elim, arith}
use Rattle.std.proofs.Math.Path.{fun_ext}
use Rattle.std.proofs.lemmas.Bool.{both_ways}
use Rattle.refusal.proofs.Checks.{both_passed, length_passed}
use Rattle.refusal.specs.declared.Refusal.{Refusal}
use Rattle.rules.specs.Program.{Program}
use Rattle.rules.specs.Stable.{Atoms, Stable}
use Rattle.rules.proofs.Tests.{some_same}
use Rattle.tables.specs.Entries.{table_of}
use Rattle.marks.specs.Marks.{marked}
use Rattle.rankings.specs.Laws.{Known, NoneBroken}
use Rattle.rankings.specs.Rounds.{round_of, rounds_needed, taken}
use Rattle.refusal.specs.Tables.{both_checked, length_checked}
use Rattle.rounds.specs.TakenRounds.{all_taken, by_lengths, lengths_checked}
use Rattle.rankings.proofs.Needed.{last_taker, none_left, round_within_needed, some_left}
use Rattle.rankings.proofs.Rankings.{ranked_taken, ranking_is_round, rounds_rank}
use Rattle.rankings.proofs.Stable.{stable_taken, taken_stable}
use Rattle.support.proofs.Broken.{unbroken_lowest}
use Rattle.settlement.specs.Laws.{LoopedHasNoRanking, OnlyRanking, RankedAbove, RankedGivesOnlyRanking, RefusesExactlyAboveRungs, SaysOfRankings}
use Rattle.settlement.specs.Settle.{tables_checked}
use Rattle.rounds.specs.Taking.{number_in}
use Rattle.rounds.proofs.Numbers.{marked_known, number_upto}
use Rattle.settlement.proofs.Cases.{TooFewCase, Worked, err_case, err_from, outcome, when_looped, when_ranked, worked_cases}

abbrev ok_or_none : {X E : Type 0} → Result X E → Option X
ok_or_none (Ok x) = Some x
ok_or_none (Err e) = None

pub ok_same : {X E : Type 0} {x y : X} → ◌≡◌ {A = Result X E} (Ok x) (Ok y) → x ≡ y
ok_same e = some_same (ap ok_or_none e)

module _ (p : Program) (set : Atoms) (known : Known p set) where
  -- the number in a table of rounds
  pub numbers_are : number_in (table_of (round_of p set) p.atoms) ≡ round_of p set
  numbers_are = fun_ext (number_upto p set known p.atoms)

module _ {L : Type 0} (count : ℕ) (rung : ℕ → L) (p : Program) (marks : List ℕ) (entries : List (Option L)) (rounds : List ℕ) where
  pub known_where : Worked count rung p marks entries rounds → Known p (marked marks)
  known_where w = marked_known p marks (length_passed p.atoms (length marks) (both_passed _ _ w.fits).0)

  -- the marks and the rounds have the right lengths
  pub lengths_where : Worked count rung p marks entries rounds → lengths_checked p.atoms marks rounds ≡ Ok tt
  lengths_where w =
      let first = both_passed _ _ w.fits in
      let second = both_passed _ _ first.1 in
      let third = both_passed _ _ second.1 in
      ap (λ c. both_checked c (length_checked p.atoms (length rounds))) first.0 ∙ third.0

  -- and so every round is taken
  pub taken_where : Worked count rung p marks entries rounds → all_taken p marks rounds ≡ record { count = Ok (rounds_needed p (marked marks)); rounds = table_of (round_of p (marked marks)) p.atoms }
  taken_where w = ap (by_lengths p (marked marks) rounds) (lengths_where w)

  ranked_gives_only_ranking : RankedGivesOnlyRanking p (marked marks) (outcome count rung p marks entries rounds).answer (outcome count rung p marks entries rounds).rounds
  ranked_gives_only_ranking k h =
      let c = when_ranked count rung p marks entries rounds k h in
      let known = known_where c.worked in
      let taken_all = none_left p (marked marks) c.none_left known in
      let at : number_in (outcome count rung p marks entries rounds).rounds ≡ round_of p (marked marks) = ap (λ s. number_in s.rounds) c.is ∙ numbers_are p (marked marks) known in
      subst (OnlyRanking p (marked marks)) (sym at)
      (record { strict = rounds_rank p (marked marks) taken_all; only = λ other strict a into. ranking_is_round p (marked marks) other known strict a into })

  looped_has_no_ranking : LoopedHasNoRanking p (marked marks) (outcome count rung p marks entries rounds).answer
  looped_has_no_ranking m h ranked =
      let c = when_looped count rung p marks entries rounds m h in
      let left = some_left p (marked marks) c.others c.left in
      both_ways (taken p (marked marks) p.atoms left.0) left.2 (ranked_taken p (marked marks) ranked.0 (known_where c.worked) ranked.1 left.0 left.1)

  -- where settle is out of rungs, the set is stable, and its ranking has a number above their count
  above_rungs : TooFewCase count rung p marks entries rounds → NoneBroken p (marked marks) → Stable p (marked marks) × RankedAbove count p (marked marks)
  above_rungs c whole =
      let known = known_where c.worked in
      let taken_all = none_left p (marked marks) c.none_left known in
      let last = last_taker p (marked marks) known (omega (arith, c.above)) in (
        taken_stable p (marked marks) known whole taken_all,
        (round_of p (marked marks), rounds_rank p (marked marks) taken_all, (last.0, last.1, omega (arith, last.2, c.above))),
      )

  refused_above : Worked count rung p marks entries rounds → Stable p (marked marks) × RankedAbove count p (marked marks) → (e : Refusal) × ((outcome count rung p marks entries rounds).answer ≡ Err e)
  refused_above w h =
      let known = known_where w in
      let number = h.1.0 in
      let top = h.1.2 in
      ⊎_elim
      (λ c. let left = some_left p (marked marks) c.others c.left in
      absurd (both_ways (taken p (marked marks) p.atoms left.0) left.2 (stable_taken p (marked marks) known h.0 left.0 left.1)))
      (⊎_elim
      (λ c. absurd (omega (arith, c.enough, top.2, ranking_is_round p (marked marks) number known h.1.1 top.0 top.1, round_within_needed p (marked marks) known top.0)))
      (λ c. err_from count rung p marks entries rounds c))
      (worked_cases count rung p marks entries rounds w)

  refuses_exactly_above_rungs : RefusesExactlyAboveRungs p (marked marks) (outcome count rung p marks entries rounds).answer count (tables_checked p.atoms marks (length entries) (length rounds))
  refuses_exactly_above_rungs fits whole =
      let w : Worked count rung p marks entries rounds = record { fits = fits; whole = unbroken_lowest p (marked marks) whole } in
      ((λ h. above_rungs (err_case count rung p marks entries rounds w h.0 h.1) whole), refused_above w)

  pub says_of_rankings : SaysOfRankings count p (marked marks) (tables_checked p.atoms marks (length entries) (length rounds)) (outcome count rung p marks entries rounds).answer (outcome count rung p marks entries rounds).rounds
  says_of_rankings = record {
    ranked_gives_only_ranking = ranked_gives_only_ranking;
    looped_has_no_ranking = looped_has_no_ranking;
    refuses_exactly_above_rungs = refuses_exactly_above_rungs;
  }
