-- The law holds from the making on.
use Rattle.std.proofs.Common.{length}
use Rattle.session.proofs.Made.{holds_from_nothing}
use Rattle.session.proofs.run.Goals as goal

pub returns-clause-holds_after_all : goal.returns-clause-holds_after_all
returns-clause-holds_after_all g c =
    let level = g.L.Level in
    holds_from_nothing level.below level.RUNGS level.rung level.laws (g.S.RuleSource.meaning c.args.source.now) (length c.args.marks.now) (length c.args.levels.now.entries.now)
