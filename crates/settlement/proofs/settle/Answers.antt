-- What settle answers and leaves is what is defined.
use Rattle.std.proofs.Common.{◌≡◌, ◌<◌, ◌≤◌, ◌&&◌, ◌==◌, cond, length, Some, Err, refl, sym, ap, ◌∙◌, arith}
use Rattle.refusal.specs.Refused.{refused}
use Rattle.refusal.specs.declared.Reason.TheVariants.{Rounds}
use Rattle.refusal.specs.declared.Layer.TheVariants.{Survey}
use Rattle.rules.specs.Tests.{tally}
use Rattle.tables.specs.Entries.{table_of}
use Rattle.levels.specs.Table.{level_of}
use Rattle.marks.specs.Marks.{byte_of, marked, sifted}
use Rattle.rankings.specs.Rounds.{left_count, round_of, rounds_needed}
use Rattle.settlement.specs.Settle.{tables_checked}
use Rattle.rounds.specs.Taking.{number_in}
use Rattle.rankings.proofs.Stable.{stable_when_ranked}
use Rattle.rankings.proofs.Strong.{strict_when_strong}
use Rattle.settlement.proofs.Cases.{Worked}
use Rattle.settlement.proofs.Laws.{ok_same, says_of_rankings, taken_where}
use Rattle.settlement.proofs.Ends.{left_counted, marks_sifted, few_rounds, entries_ranked, ends_looped, ends_refused, ends_ranked}
use Rattle.settlement.proofs.settle.Given as given
use Rattle.settlement.proofs.settle.Goals.{After-count_left-left}
use Rattle.settlement.proofs.settle.Goals as goal

-- no table is refused, and no rule is broken
worked : (g : given.Over) (c : After-count_left-left g) → Worked g.L.Level.RUNGS g.L.Level.rung (g.S.RuleSource.meaning c.args.source.now) c.args.marks.now c.args.levels.now.entries.now c.args.rounds.now
worked g c = record {
  fits =
      ap (λ n. tables_checked n c.args.marks.now (length c.args.levels.now.entries.now) (length c.args.rounds.now)) (sym c.atoms-n.ensures.value)
      ∙ ap (λ m. tables_checked c.atoms-n.result c.args.marks.now m (length c.args.rounds.now)) (sym c.len.ensures.value)
      ∙ sym c.in_ok-check_tables.ensures.value;
  whole = sym c.in_default.ensures.value;
}

-- the table that all rounds leave, and how many there are
table : (g : given.Over) (c : After-count_left-left g) → c.take_rounds.new.rounds ≡ table_of (round_of (g.S.RuleSource.meaning c.args.source.now) (marked c.args.marks.now)) (g.S.RuleSource.meaning c.args.source.now).atoms
table g c = c.take_rounds.ensures.rounds ∙ ap (λ t. t.rounds) (taken_where g.L.Level.RUNGS g.L.Level.rung (g.S.RuleSource.meaning c.args.source.now) c.args.marks.now c.args.levels.now.entries.now c.args.rounds.now (worked g c))

needed : (g : given.Over) (c : After-count_left-left g) → c.in_ok-needed.needed ≡ rounds_needed (g.S.RuleSource.meaning c.args.source.now) (marked c.args.marks.now)
needed g c = ok_same (c.in_ok-needed.ensures.value ∙ ap (λ t. t.count) (taken_where g.L.Level.RUNGS g.L.Level.rung (g.S.RuleSource.meaning c.args.source.now) c.args.marks.now c.args.levels.now.entries.now c.args.rounds.now (worked g c)))

left : (g : given.Over) (c : After-count_left-left g) → c.count_left-left.result ≡ left_count (g.S.RuleSource.meaning c.args.source.now) (marked c.args.marks.now)
left g c =
    let level = g.L.Level in
    let p = g.S.RuleSource.meaning c.args.source.now in
    let marks = c.args.marks.now in
    let after = c.take_rounds.new.rounds in
    c.count_left-left.ensures.value
    ∙ ap (tally (λ a. marked marks a && number_in after a == 0)) c.atoms-n.ensures.value
    ∙ left_counted level.RUNGS level.rung p marks c.args.levels.now.entries.now c.args.rounds.now (worked g c) after (table g c)

pub returns-then-left-gt0 : goal.returns-then-left-gt0
returns-then-left-gt0 g c =
    let level = g.L.Level in
    let p = g.S.RuleSource.meaning c.args.source.now in
    let marks = c.args.marks.now in
    let entries = c.args.levels.now.entries.now in
    let rounds = c.args.rounds.now in
    let after = c.take_rounds.new.rounds in
    let at = (goal.at.returns-then-left-gt0 g c).After-count_left-left in
    let w = worked g at in
    let ends = ends_looped level.RUNGS level.rung p marks entries rounds w c.count_left-left.result (left g at) (omega arith) in
    record {
      answer = sym (ap (λ s. s.answer) ends);
      marks =
          c.doubt_left.ensures.after
          ∙ ap (table_of (λ a. sifted (number_in after a == 0) (byte_of marks a))) c.atoms-n.ensures.value
          ∙ marks_sifted level.RUNGS level.rung p marks entries rounds w after (table g at)
          ∙ sym (ap (λ s. s.marks) ends);
      entries = sym (ap (λ s. s.entries) ends);
      rounds = table g at ∙ sym (ap (λ s. s.rounds) ends);
      says_of_rankings = says_of_rankings level.RUNGS level.rung p c.args.marks.now c.args.levels.now.entries.now c.args.rounds.now;
      stable_when_ranked = stable_when_ranked p;
      strict_when_strong = strict_when_strong p;
      named = refl;
    }

pub returns-then-from-RUNGS : goal.returns-then-from-RUNGS
returns-then-from-RUNGS g c =
    let level = g.L.Level in
    let p = g.S.RuleSource.meaning c.args.source.now in
    let k = c.in_ok-needed.needed in
    let at = (goal.at.returns-then-from-RUNGS g c).After-count_left-left in
    let none : left_count p (marked c.args.marks.now) ≡ 0 = omega (arith, left g at) in
    let above : level.RUNGS < k = omega (arith, c.from.ensures, c.RUNGS.ensures) in
    let ends = ends_refused level.RUNGS level.rung p c.args.marks.now c.args.levels.now.entries.now c.args.rounds.now (worked g at) k (needed g at) none above in
    record {
      answer = ap Err (c.refuse.ensures.value ∙ ap (refused Survey Rounds) c.from-then-from-RUNGS.ensures) ∙ sym (ap (λ s. s.answer) ends);
      marks = sym (ap (λ s. s.marks) ends);
      entries = sym (ap (λ s. s.entries) ends);
      rounds = table g at ∙ sym (ap (λ s. s.rounds) ends);
      says_of_rankings = says_of_rankings level.RUNGS level.rung p c.args.marks.now c.args.levels.now.entries.now c.args.rounds.now;
      stable_when_ranked = stable_when_ranked p;
      strict_when_strong = strict_when_strong p;
      named = refl;
    }

pub put_rungs-requires-clause-few : goal.put_rungs-requires-clause-few
put_rungs-requires-clause-few g c =
    let level = g.L.Level in
    let p = g.S.RuleSource.meaning c.args.source.now in
    let at = (goal.at.put_rungs-requires-clause-few g c).After-count_left-left in
    few_rounds level.RUNGS level.rung p c.args.marks.now c.args.levels.now.entries.now c.args.rounds.now (worked g at) c.take_rounds.new.rounds (table g at)
    (omega (arith, (needed g at), c.from.ensures, c.RUNGS.ensures))

pub returns : goal.returns
returns g c =
    let level = g.L.Level in
    let p = g.S.RuleSource.meaning c.args.source.now in
    let marks = c.args.marks.now in
    let entries = c.args.levels.now.entries.now in
    let rounds = c.args.rounds.now in
    let after = c.take_rounds.new.rounds in
    let k = c.in_ok-needed.needed in
    let at = (goal.at.returns g c).After-count_left-left in
    let w = worked g at in
    let none : left_count p (marked marks) ≡ 0 = omega (arith, left g at) in
    let within : k ≤ level.RUNGS = omega (arith, c.from.ensures, c.RUNGS.ensures) in
    let ends = ends_ranked level.RUNGS level.rung p marks entries rounds w k (needed g at) none within in
    record {
      answer = sym (ap (λ s. s.answer) ends);
      marks = sym (ap (λ s. s.marks) ends);
      entries =
          c.put_rungs.ensures.after
          ∙ ap (table_of (λ a. cond (number_in after a == 0) (level_of entries a) (Some (level.rung (number_in after a))))) c.atoms-n.ensures.value
          ∙ entries_ranked level.RUNGS level.rung p marks entries rounds w after (table g at) none
          ∙ sym (ap (λ s. s.entries) ends);
      rounds = table g at ∙ sym (ap (λ s. s.rounds) ends);
      says_of_rankings = says_of_rankings level.RUNGS level.rung p c.args.marks.now c.args.levels.now.entries.now c.args.rounds.now;
      stable_when_ranked = stable_when_ranked p;
      strict_when_strong = strict_when_strong p;
      named = c.put_rungs.ensures.named;
    }

-- the laws of rankings, where a table is refused and where a rule is broken
pub returns-in_err-check_tables-clause-stable_when_ranked : goal.returns-in_err-check_tables-clause-stable_when_ranked
returns-in_err-check_tables-clause-stable_when_ranked g c = stable_when_ranked (g.S.RuleSource.meaning c.args.source.now)

pub returns-in-Some-clause-says_of_rankings : goal.returns-in-Some-clause-says_of_rankings
returns-in-Some-clause-says_of_rankings g c = says_of_rankings g.L.Level.RUNGS g.L.Level.rung (g.S.RuleSource.meaning c.args.source.now) c.args.marks.now c.args.levels.now.entries.now c.args.rounds.now

pub returns-in-Some-clause-stable_when_ranked : goal.returns-in-Some-clause-stable_when_ranked
returns-in-Some-clause-stable_when_ranked g c = stable_when_ranked (g.S.RuleSource.meaning c.args.source.now)
