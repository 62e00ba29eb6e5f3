-- Each rule that is there has the head 1.
use Rattle.std.proofs.Common.{min, sym, arith}
use lib.ListN.{length-replicate}
use Rattle.source_cases.specs.Repeated.{fact}
use Rattle.source_cases.proofs.Facts.{head_of_zero, head_past, head_there}
use Rattle.source_cases.proofs.repeated.source.RepeatedRuleSource.head.Goals as goal
use Rattle.source_cases.proofs.repeated.source.RepeatedRuleSource.head.Goals.{then-rule-eq0-via-then-rule-eq0, then-rule-eq0-via-else-rule-eq0+then-rule-rules}

pub returns-then-rule-eq0 : goal.returns-then-rule-eq0
returns-then-rule-eq0 c =
    let self = c.args.self.now in
    elim c.then-rule-eq0.branch [
      | then-rule-eq0-via-then-rule-eq0 w ↦ record { value = sym (head_of_zero self c.args.rule w.if-rule-eq0.true) }
      | then-rule-eq0-via-else-rule-eq0+then-rule-rules w ↦
          record { value = sym (head_past self c.args.rule (omega (arith, w.rules.ensures.value, w.if-rule-rules.true, length-replicate (min self.rules 16384) fact))) }
    ]

pub returns : goal.returns
returns c =
    let self = c.args.self.now in
    record { value = sym (head_there self c.args.rule (omega (arith, c.if-rule-eq0.false)) (omega (arith, c.rules.ensures.value, c.if-rule-rules.false, length-replicate (min self.rules 16384) fact))) }
