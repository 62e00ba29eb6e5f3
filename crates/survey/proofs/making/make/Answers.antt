use Rattle.survey.proofs.Made.{made_from_none, made_as}
use Rattle.std.proofs.Common.{length}
use Rattle.survey.proofs.making.make.Goals as goal

pub returns : goal.returns
returns g c = record {
  marks = c.clear.ensures.after;
  entries = c.clear-2.ensures.after;
  claimed = made_as (made_from_none (length c.args.marks.now) (length c.args.levels.now.entries.now)) c.clear.ensures.after c.clear-2.ensures.after;
  named = c.clear-2.ensures.named;
}
