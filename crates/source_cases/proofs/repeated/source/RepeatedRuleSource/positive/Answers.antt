-- A fact has no body.
use Rattle.std.proofs.Common.{◌-◌, min, eqb, sym, refl}
use Rattle.source_cases.proofs.Facts.{no_atom}
use Rattle.source_cases.proofs.repeated.source.RepeatedRuleSource.positive.Goals as goal

pub returns : goal.returns
returns c =
    record { value = sym (no_atom (λ r. r.positive) refl c.args._position (eqb c.args._rule 0) (min c.args.self.now.rules 16384) (c.args._rule - 1)) }
