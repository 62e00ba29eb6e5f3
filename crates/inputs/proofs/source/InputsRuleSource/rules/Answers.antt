-- The rules below and the facts, up to the limit.
use Rattle.std.proofs.Common.{◌≡◌, length, filter, arith}
use Rattle.rules.specs.Program.{within}
use Rattle.inputs.proofs.Asked.{length-with_inputs}
use Rattle.inputs.proofs.source.InputsRuleSource.rules.Goals as goal

pub overflow_add-rules : goal.overflow_add-rules
overflow_add-rules g c = omega (arith, (g.S.RuleSource.lawful c.args.self.now.below).rules_bound)

pub returns : goal.returns
returns g c =
    let self = c.args.self.now in
    let p = g.S.RuleSource.meaning self.below in
    let counted : c.count_atoms-facts.result ≡ length (filter (within p.atoms) self.inputs.items) = cc in
    record { value = omega (arith, length-with_inputs p self.inputs.items) }
