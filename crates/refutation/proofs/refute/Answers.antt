-- What refute answers is what is defined, and by that definition no stable set is accepted.
use Rattle.std.proofs.Common.{◌∙◌, sym, rules}
use Rattle.refutation.proofs.Unstable.{refuted_is_not_stable}
use Rattle.refutation.proofs.refute.Goals as goal

pub returns-clause-accepted_is_not_stable : goal.returns-clause-accepted_is_not_stable
returns-clause-accepted_is_not_stable g c =
    let p = g.S.RuleSource.meaning c.args.source.now in
    let marks = c.args.marks.now in
    λ m e. refuted_is_not_stable p marks m (sym (search rules) ∙ e)
