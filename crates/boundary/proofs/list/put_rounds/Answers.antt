-- The rounds that find a place are put there.
use Rattle.boundary.proofs.Over.{put_over}
use Rattle.boundary.proofs.list.put_rounds.Goals as goal

pub returns-clause-after : goal.returns-clause-after
returns-clause-after c = put_over c.args.lent.now c.args.rounds.now c.copy_from_slice.new.self c.args.from c.min-many.result c.min-many.ensures c.copy_from_slice.ensures.after
