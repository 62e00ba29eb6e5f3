use Rattle.std.proofs.Common.{length, Err, ap, ◌∙◌}
use Rattle.std.proofs.lemmas.Result.{err_from_is_err_and}
use Rattle.certificate.specs.Reading.{claims_in}
use Rattle.survey.specs.Making.{makeable}
use Rattle.survey.proofs.Made.{claims_for_fitting}
use Rattle.console.proofs.Claims.{refused_claims}
use Rattle.console.proofs.answer.judge_in.Goals as goal

pub returns-in_err-can_make_from : goal.returns-in_err-can_make_from
returns-in_err-can_make_from g c =
    let p = err_from_is_err_and c.from_residual.result c.from_residual.ensures.1 in
    let program = g.S.RuleSource.meaning c.args.source.now in
    let level = g.L.StoredLevel in
    let certificate = c.args.certificate.now in
    let fitting = claims_for_fitting level.WIDTH level.decode program.atoms level.KIND certificate _ _ c.requires.marks (ap length c.over-levels.ensures.value ∙ c.requires.entries) in
    record {
      value = p.1 ∙ ap Err p.2
          ∙ refused_claims g.L.Level.below program (claims_in level.WIDTH level.decode program.atoms level.KIND certificate) c.in_err-can_make_from.field-0.0
          (c.in_err-can_make_from.ensures.value ∙ ap makeable fitting);
    }
