-- What the loop of `write_rules` keeps.
use Rattle.std.proofs.Common.{◌≡◌, ◌≤◌, length}
use Rattle.writer.specs.Writing.{laid_over}
use Rattle.writer.proofs.Files.{front}
use Rattle.writer.proofs.write_rules.Given as goal

-- what stands before the rule is written, and the place is where it ends
abbrev pub invariant-loop-rule : goal.invariant-loop-rule
invariant-loop-rule g l =
    let done = front (g.S.RuleSource.meaning l.source) l.rule in
    (1 ≤ l.rule) × ((l.at ≡ length done) × (l.out ≡ laid_over done l.initial.out))
