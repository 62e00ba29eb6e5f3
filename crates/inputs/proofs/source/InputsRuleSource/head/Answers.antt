-- A rule's head is the one below, else that of a fact.
use Rattle.std.proofs.Common.{rules}
use Rattle.inputs.proofs.Asked.{head_of_source}
use Rattle.inputs.proofs.source.InputsRuleSource.head.Goals as goal

pub returns : goal.returns
returns g c =
    let self = c.args.self.now in
    record { value = head_of_source (g.S.RuleSource.meaning self.below) self.inputs.items (g.S.RuleSource.lawful self.below) c.args.rule c.head.result c.or_else.result c.head.ensures.value (λ h. search rules) c.or_else.ensures }
