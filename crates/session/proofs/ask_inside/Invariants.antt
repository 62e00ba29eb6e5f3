-- What the loop of `ask_inside` keeps.
use Rattle.std.proofs.Common.{◌≡◌}
use Rattle.session.specs.Run.{Tables, asked}
use Rattle.session.proofs.Walked.{walked}
use Rattle.session.proofs.ask_inside.Given as goal

-- the questions so far are answered on the tables inside the trial
abbrev pub invariant-asks : goal.invariant-asks
invariant-asks g l =
    let p = g.S.RuleSource.meaning l.source in
    let inside : Tables g.row.L.Denot = record { marks = l.trial.marks.now; entries = l.levels.entries.now } in
    l.asks ≡ walked (asked g.L.Level.below g.L.Level.RUNGS g.L.Level.rung p inside) l.ask-index l.initial.asks
