-- What the loop of `ask_rules` keeps.
use Rattle.std.proofs.Common.{◌-◌, ◌≤◌}
use Rattle.marks.specs.Marks.{marked}
use Rattle.waiting.specs.Waiting.{key_of, waiting_under}
use Rattle.rounds.specs.Progress.{Under}
use Rattle.rounds.proofs.ask_rules.Given as goal

-- the rules that still wait for the atom are to be asked
abbrev pub invariant-rules : goal.invariant-rules
invariant-rules g l = record {
  under : Under (g.S.RuleSource.meaning l.set.source.now) (marked l.set.marks.now) (l.round - 1) l.atom 0 l.taking l.rounds;
  fewer : waiting_under 4098 (key_of l.taking.coming) l.round ≤ waiting_under 4098 (key_of l.initial.taking.coming) l.round;
}

-- as many as still wait for it
abbrev pub decreases-rules : goal.decreases-rules
decreases-rules g l = waiting_under 16385 (key_of l.taking.waiting) l.atom
