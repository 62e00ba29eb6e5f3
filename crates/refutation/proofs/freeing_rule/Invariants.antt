-- What the loop of `freeing_rule` keeps, and what becomes less.
use Rattle.std.proofs.Common.{not}
use Rattle.marks.specs.Marks.{doubted, marked}
use Rattle.support.proofs.Walk.{Walk, rules_left}
use Rattle.refutation.proofs.freeing_rule.Given as goal

-- the chain from here on gives the answer
abbrev pub invariant-rules : goal.invariant-rules
invariant-rules g l = Walk (g.S.RuleSource.meaning l.set.source.now) (λ b. not (doubted l.set.marks.now b)) (marked l.set.marks.now) l.atom l.next

abbrev pub decreases-rules : goal.decreases-rules
decreases-rules g l = rules_left (g.S.RuleSource.meaning l.set.source.now) l.atom l.next
