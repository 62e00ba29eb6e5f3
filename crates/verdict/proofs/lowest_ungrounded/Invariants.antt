-- What the loops of `lowest_ungrounded` keep.
use Rattle.std.proofs.Common.{◌≡◌}
use Rattle.rules.specs.Parts.{atoms_left}
use Rattle.rules.specs.Questions.{positive_part}
use Rattle.rules.specs.Tests.{all, lowest}
use Rattle.rules.proofs.Tests.{lowest_from}
use Rattle.marks.specs.Marks.{marked}
use Rattle.support.proofs.Walk.{Walk, rules_left}
use Rattle.verdict.specs.Judge.{lower, ungrounded}
use Rattle.verdict.proofs.Grounded.{under}
use Rattle.verdict.proofs.lowest_ungrounded.Given as goal

-- the atoms that are left give the answer
abbrev pub invariant-atoms : goal.invariant-atoms
invariant-atoms g l =
    let p = g.S.RuleSource.meaning l.set.source.now in
    let test = ungrounded g.L.Level.below p (marked l.set.marks.now) l.levels.entries.now in
    lowest_from test p.atoms l.atom ≡ lowest test p.atoms

-- the chain from here on gives whether the atom is grounded
abbrev pub invariant-rules : goal.invariant-rules
invariant-rules g l =
    let p = g.S.RuleSource.meaning l.set.source.now in
    Walk p (lower g.L.Level.below l.levels.entries.now l.atom) (marked l.set.marks.now) l.atom l.next

abbrev pub decreases-rules : goal.decreases-rules
decreases-rules g l = rules_left (g.S.RuleSource.meaning l.set.source.now) l.atom l.next

-- what is left of the part gives whether all its atoms are marked, with lower levels
abbrev pub invariant-positive : goal.invariant-positive
invariant-positive g l =
    let part = positive_part (g.S.RuleSource.meaning l.set.source.now) l.rule in
    let test = under g.L.Level.below l.set.marks.now l.levels.entries.now l.atom in
    all test (atoms_left g.S.RuleSource.meaning l.other-iterator) ≡ all test part
