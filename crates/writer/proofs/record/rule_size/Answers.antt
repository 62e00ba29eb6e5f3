-- A record has two bytes for each atom, and eight more.
use Rattle.std.proofs.Common.{arith}
use Rattle.writer.proofs.Rules.{rule_length}
use Rattle.writer.proofs.record.rule_size.Goals as goal

pub returns : goal.returns
returns g c =
    let long = rule_length (g.S.RuleSource.meaning c.args.source.now) c.args.rule in
    record { value = omega (arith, long, c.count_atoms-positive.ensures.value, c.count_atoms-negative.ensures.value) }
