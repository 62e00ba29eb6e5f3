-- The law holds from the making on.
use Rattle.std.proofs.Common.{length}
use Rattle.session.proofs.Made.{holds_from_claims}
use Rattle.session.proofs.run_from.Goals as goal

pub returns-clause-holds_after_all : goal.returns-clause-holds_after_all
returns-clause-holds_after_all g c =
    let level = g.L.Level in
    let stored = g.L.StoredLevel in
    let p = g.S.RuleSource.meaning c.args.source.now in
    holds_from_claims level.below level.RUNGS level.rung level.laws p (length c.args.marks.now) (length c.args.levels.now.entries.now) stored.WIDTH stored.decode p.atoms stored.KIND c.args.certificate.now
