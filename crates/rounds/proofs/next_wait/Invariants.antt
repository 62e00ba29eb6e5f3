-- What the loop of `next_wait` keeps.
use Rattle.std.proofs.Common.{◌≡◌, ◌-◌, drop, length}
use Rattle.rules.specs.Questions.{positive_part}
use Rattle.rounds.specs.Progress.{first_wait}
use Rattle.rounds.specs.Taking.{taken_before}
use Rattle.rounds.proofs.next_wait.Given as goal

-- the atoms that are left give the answer
abbrev pub invariant-positive : goal.invariant-positive
invariant-positive g l =
    let part = positive_part (g.S.RuleSource.meaning l.source) l.rule in
    let test = taken_before l.rounds l.round in
    first_wait test l.position (drop l.position part) ≡ first_wait test l.from (drop l.from part)

abbrev pub decreases-positive : goal.decreases-positive
decreases-positive g l = length (positive_part (g.S.RuleSource.meaning l.source) l.rule) - l.position
