-- What the loop of `take_all` keeps.
use Rattle.std.proofs.Common.{◌≡◌, ℕ, ◌-◌, ◌<◌, ◌≤◌, true}
use Rattle.marks.specs.Marks.{marked}
use Rattle.rankings.specs.Rounds.{round_upto, takes_some}
use Rattle.tables.specs.Entries.{table_of}
use Rattle.rounds.specs.Progress.{Under}
use Rattle.rounds.proofs.take_all.Given as goal

-- the table has the rounds before this one, and each of them takes some atom
abbrev pub invariant-rounds : goal.invariant-rounds
invariant-rounds g l =
    let p = g.S.RuleSource.meaning l.set.source.now in
    let set = marked l.set.marks.now in
    record {
      written : l.rounds ≡ table_of (round_upto p set (l.round - 1)) p.atoms;
      under : Under p set (l.round - 1) 0 0 l.taking l.rounds;
      each : (j : ℕ) → 1 ≤ j → j < l.round → takes_some p set j ≡ true;
    }
