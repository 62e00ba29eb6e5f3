-- The fact stands as many times, up to the limit.
use Rattle.std.proofs.Common.{min, arith}
use lib.ListN.{length-replicate}
use Rattle.source_cases.specs.Repeated.{fact}
use Rattle.source_cases.proofs.repeated.source.RepeatedRuleSource.rules.Goals as goal

pub returns : goal.returns
returns c = record { value = omega (arith, length-replicate (min c.args.self.now.rules 16384) fact) }
