-- Without inputs the rules are those of the source below.
use Rattle.std.proofs.Common.{rules}
use Rattle.inputs.proofs.Added.{without_inputs}
use Rattle.inputs.proofs.Inputs.over.Goals as goal

pub returns : goal.returns
returns g c =
    let lawful = g.S.RuleSource.lawful c.args.below in
    search (rules, without_inputs)
