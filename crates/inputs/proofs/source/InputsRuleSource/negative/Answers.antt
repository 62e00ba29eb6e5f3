-- A fact has no body.
use Rattle.std.proofs.Common.{rules}
use Rattle.inputs.proofs.Asked.{negative_part_stays}
use Rattle.inputs.proofs.source.InputsRuleSource.negative.Goals as goal

pub returns : goal.returns
returns g c =
    let self = c.args.self.now in
    let stays = negative_part_stays (g.S.RuleSource.meaning self.below) self.inputs.items (g.S.RuleSource.lawful self.below) c.args.rule c.args.position in
    search rules
