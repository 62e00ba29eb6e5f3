-- A judge straight after settle answered that the set is ranked accepts. Assumes nothing.
use Rattle.std.proofs.Common.{◌≡◌, ℕ, suc, ◌-◌, ◌<◌, ◌≤◌, Bool, true, false, cond, not, List, length, is_some, Some, None, Ok, Option, sym, ap, ◌∙◌, ⊎_elim, arith}
use Rattle.std.proofs.lemmas.Bool.{and_left, and_right, cases_Bool, cond-true}
use Rattle.std.proofs.lemmas.List.FromFn.{length-map-range_with_len}
use Rattle.refusal.specs.Tables.{both_checked, length_checked}
use Rattle.refusal.proofs.Checks.{both_passed}
use Rattle.rules.specs.Program.{Program}
use Rattle.rules.specs.Stable.{Atoms, supports_with}
use Rattle.rules.specs.Tests.{tally}
use Rattle.rules.proofs.Tests.{any_grows, lowest_none, within_parts}
use Rattle.levels.specs.Order.{Order}
use Rattle.levels.specs.Table.{level_of}
use Rattle.levels.proofs.Tables.{level_of_table}
use Rattle.marks.specs.Calls.{bytes_checked}
use Rattle.marks.specs.Marks.{lowest_unlawful, marked}
use Rattle.rankings.specs.Laws.{Known}
use Rattle.rankings.specs.Rounds.{round_of, rounds_needed, taken}
use Rattle.rankings.proofs.Needed.{none_left, round_within_needed}
use Rattle.rankings.proofs.Numbers.{round_bounded, round_of_taken, taken_by_round}
use Rattle.rankings.proofs.Rounds.{supports_grows, taken_in}
use Rattle.support.specs.Rules.{lowest_broken}
use Rattle.settlement.specs.Settle.{ranked_entries}
use Rattle.settlement.proofs.Cases.{RankedCase, outcome}
use Rattle.rounds.proofs.Numbers.{marked_known}
use Rattle.settlement.proofs.MarksAfter.{lawful_where, sized_where}
use Rattle.verdict.specs.Judge.{both_below, by_ground, by_levels, by_rules, by_tables, grounded, judged, lower, tables_checked, ungrounded, unlevelled, verdict}
use Rattle.verdict.specs.declared.Verdict.TheVariants.{Accepted}

module _ {L : Type 0} (below : L → L → Bool) (count : ℕ) (rung : ℕ → L) (laws : Order below count rung) (p : Program) (set : Atoms) (marks : List ℕ) (entries : List (Option L)) where
  -- the levels afterwards
  abbrev levels : List (Option L)
  levels = ranked_entries count rung p set marks entries

  abbrev ranked_level : ℕ → Option L
  ranked_level a = cond (set a) (Some (rung (round_of p set a))) (level_of entries a)

  long : length levels ≡ p.atoms
  long = length-map-range_with_len ranked_level 1 p.atoms

  module _ (known : Known p set) (each_taken : (a : ℕ) → set a ≡ true → taken p set p.atoms a ≡ true) (within : rounds_needed p set ≤ count) where
    some_round : (a : ℕ) → set a ≡ true → 1 ≤ round_of p set a
    some_round a into = (round_of_taken p set p.atoms p.atoms a (omega arith) (each_taken a into)).0

    -- an atom of the set has the rung of its round
    level_ranked : (a : ℕ) → set a ≡ true → level_of levels a ≡ Some (rung (round_of p set a))
    level_ranked a into =
        let place = within_parts p.atoms a (known a into) in
        level_of_table ranked_level p.atoms a place.0 place.1 ∙ cond-true (set a) (Some (rung (round_of p set a))) (level_of entries a) into

    -- one of an earlier round has a lower level
    lower_earlier : (a b : ℕ) → set a ≡ true → set b ≡ true → round_of p set b < round_of p set a → lower below levels a b ≡ true
    lower_earlier a b into other earlier =
        ap (λ o. both_below below o (level_of levels a)) (level_ranked b other)
        ∙ ap (both_below below (Some (rung (round_of p set b)))) (level_ranked a into)
        ∙ laws.ascend (round_of p set b) (round_of p set a) (some_round b other) earlier (omega (arith, round_within_needed p set known a))

    grounded_in : (k a : ℕ) → set a ≡ true → round_of p set a ≡ suc k → grounded below p set levels a ≡ true
    grounded_in k a into at =
        let low : suc k ≤ p.atoms = omega (arith, round_bounded p set p.atoms a) in
        any_grows (supports_with (taken p set k) set a) (supports_with (lower below levels a) set a)
        (λ r. supports_grows set a r (taken p set k) (lower below levels a)
        (λ b early. lower_earlier a b into (taken_in p set k b early) (omega (arith, (round_of_taken p set p.atoms k b (omega arith) early).1))))
        p.rules (taken_by_round p set p.atoms (suc k) a low (omega arith) (omega arith))

    each_levelled : (a : ℕ) → unlevelled below set levels a ≡ false
    each_levelled a =
        ⊎_elim
        (λ into. and_right (set a) (not (is_some (level_of levels a))) (ap (λ o. not (is_some o)) (level_ranked a into)))
        (λ out. and_left (set a) (not (is_some (level_of levels a))) out)
        (cases_Bool (set a))

    each_grounded : (a : ℕ) → ungrounded below p set levels a ≡ false
    each_grounded a =
        ⊎_elim
        (λ into. let some = some_round a into in
        and_right (set a) (not (grounded below p set levels a)) (ap not (grounded_in (round_of p set a - 1) a into (omega arith))))
        (λ out. and_left (set a) (not (grounded below p set levels a)) out)
        (cases_Bool (set a))

    -- what judge answers of these levels, where no rule is broken
    levels_accepted : lowest_broken p set ≡ None → verdict below p set levels ≡ Accepted (tally set p.atoms)
    levels_accepted whole =
        ap (by_rules below p set levels) whole
        ∙ ap (by_levels below p set levels) (lowest_none (unlevelled below set levels) p.atoms (λ a low high. each_levelled a))
        ∙ ap (by_ground below p set levels) (lowest_none (ungrounded below p set levels) p.atoms (λ a low high. each_grounded a))

module _ {L : Type 0} (below : L → L → Bool) (count : ℕ) (rung : ℕ → L) (laws : Order below count rung) (p : Program) (marks : List ℕ) (entries : List (Option L)) (rounds : List ℕ) (c : RankedCase count rung p marks entries rounds) where
  abbrev after : List (Option L)
  after = ranked_entries count rung p (marked marks) marks entries

  sized : length marks ≡ p.atoms
  sized = sized_where count rung p marks entries rounds c.worked

  fits : tables_checked p.atoms marks (length after) ≡ Ok tt
  fits =
      let fit = (both_passed _ _ c.worked.fits).0 in
      let bytes = bytes_checked (lowest_unlawful marks) in
      ap (λ r. both_checked r (both_checked (length_checked p.atoms (length after)) bytes)) fit
      ∙ ap (λ r. both_checked r bytes) (ap (length_checked p.atoms) (long below count rung laws p (marked marks) marks entries ∙ sym sized) ∙ fit)
      ∙ ap bytes_checked (lawful_where count rung p marks entries rounds c.worked)

  pub judge_accepts : judged below p (outcome count rung p marks entries rounds).marks (outcome count rung p marks entries rounds).entries ≡ Ok (Accepted (tally (marked marks) p.atoms))
  judge_accepts =
      let known = marked_known p marks sized in
      ap (λ s. judged below p s.marks s.entries) c.is
      ∙ ap (by_tables below p (marked marks) after) fits
      ∙ ap Ok (levels_accepted below count rung laws p (marked marks) marks entries known (none_left p (marked marks) c.none_left known) c.enough c.worked.whole)
