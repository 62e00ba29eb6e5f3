-- What the loop of `perform` keeps.
use Rattle.std.proofs.Common.{◌≡◌, ◌++◌, map, take, drop}
use Rattle.session.specs.Run.{Tables, after_all, held, names, performed}
use Rattle.session.proofs.perform.Given as goal

-- the calls that are left give the tables and the loans
abbrev pub invariant-calls : goal.invariant-calls
invariant-calls g l =
    let p = g.S.RuleSource.meaning l.source in
    let level = g.L.Level in
    let start : Tables g.row.L.Denot = record { marks = l.initial.marks; entries = l.initial.levels.entries.now } in
    let now : Tables g.row.L.Denot = record { marks = l.marks; entries = l.levels.entries.now } in
    (after_all level.below level.RUNGS level.rung p now (drop l.at l.calls) (drop l.at l.loans) ≡ after_all level.below level.RUNGS level.rung p start l.calls l.initial.loans)
    × (map held (take l.at l.loans) ++ performed level.below level.RUNGS level.rung p now (drop l.at l.calls) (drop l.at l.loans) ≡ performed level.below level.RUNGS level.rung p start l.calls l.initial.loans)
    × (l.levels.entries.ghost_name ≡ l.initial.levels.entries.ghost_name)
    × (map names l.loans ≡ map names l.initial.loans)
