-- What the loop of `put_rungs` keeps.
use Rattle.std.proofs.Common.{◌≡◌, ◌==◌, cond, Some}
use Rattle.levels.specs.Table.{level_of}
use Rattle.tables.proofs.Entries.{changed}
use Rattle.rounds.specs.Taking.{number_in}
use Rattle.settlement.proofs.put_rungs.Given as goal

-- the atoms before this one that a round took have their rungs, and the others are as they were
abbrev pub invariant-atoms : goal.invariant-atoms
invariant-atoms g l = record {
  entries : l.levels.entries.now ≡ changed (λ a. cond (number_in l.rounds a == 0) (level_of l.fn.levels.entries.now a) (Some (g.L.Level.rung (number_in l.rounds a)))) (level_of l.fn.levels.entries.now) l.n l.atom;
  named : l.levels.entries.ghost_name ≡ l.fn.levels.entries.ghost_name;
}
