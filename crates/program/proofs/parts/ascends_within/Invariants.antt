-- What the walk keeps.
use Rattle.std.proofs.Common.{◌≡◌, ◌&&◌}
use Rattle.records.specs.Words.{words}
use Rattle.rules.specs.Program.{ascending, within}
use Rattle.rules.specs.Tests.{all}
use Rattle.program.proofs.Walks.{rises}
use Rattle.program.proofs.parts.ascends_within.Given as goal

-- what is left of the part gives the answer
abbrev pub invariant-atoms : goal.invariant-atoms
invariant-atoms l = rises l.n l.last (words l.atom-iterator.bytes.now) ≡ (ascending (words l.part) && all (within l.n) (words l.part))
