-- What the loop of `lowest_escape` keeps.
use Rattle.std.proofs.Common.{◌≡◌}
use Rattle.rules.specs.Tests.{lowest}
use Rattle.rules.proofs.Tests.{lowest_from}
use Rattle.marks.specs.Marks.{doubted, marked}
use Rattle.refutation.specs.Refute.{escapes}
use Rattle.refutation.proofs.lowest_escape.Given as goal

-- the atoms that are left give the answer
abbrev pub invariant-loop-atom : goal.invariant-loop-atom
invariant-loop-atom g l =
    let p = g.S.RuleSource.meaning l.set.source.now in
    let test = escapes p (marked l.set.marks.now) (doubted l.set.marks.now) in
    lowest_from test p.atoms l.atom ≡ lowest test p.atoms
