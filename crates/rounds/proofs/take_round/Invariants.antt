-- What the loop of `take_round` keeps.
use Rattle.std.proofs.Common.{◌-◌}
use Rattle.marks.specs.Marks.{marked}
use Rattle.waiting.specs.Waiting.{key_of, waiting_under}
use Rattle.rounds.specs.Progress.{Under}
use Rattle.rounds.proofs.take_round.Given as goal

-- the rules of the atoms that are still due in the round are to be asked
abbrev pub invariant-atoms : goal.invariant-atoms
invariant-atoms g l = record { under : Under (g.S.RuleSource.meaning l.set.source.now) (marked l.set.marks.now) (l.round - 1) 0 0 l.taking l.rounds }

-- as many as are still due
abbrev pub decreases-atoms : goal.decreases-atoms
decreases-atoms g l = waiting_under 4098 (key_of l.taking.coming) l.round
