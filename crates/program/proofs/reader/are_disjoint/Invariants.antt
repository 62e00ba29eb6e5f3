-- What is left of the two parts gives the answer, and becomes shorter.
use Rattle.std.proofs.Common.{◌+◌, length}
use Rattle.records.specs.Words.{words}
use Rattle.rules.specs.Program.{disjoint}
use Rattle.program.proofs.Disjoint.{Apart}
use Rattle.program.proofs.reader.are_disjoint.Given as goal

abbrev pub invariant-loop-one : goal.invariant-loop-one
invariant-loop-one l = Apart l.one l.other (disjoint (words l.left) (words l.right))

abbrev pub decreases-loop-one : goal.decreases-loop-one
decreases-loop-one l = length l.one + length l.other
