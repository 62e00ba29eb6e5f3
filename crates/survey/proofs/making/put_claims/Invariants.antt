use Rattle.std.proofs.Common.{◌≡◌}
use Rattle.certificate.specs.Standing.{claims_left}
use Rattle.certificate.specs.Reading.{claims_in}
use Rattle.survey.specs.Making.{claims_or_none, with_claims, with_levels}
use Rattle.survey.proofs.making.put_claims.Given as goal

-- what is left gives the tables
abbrev pub invariant-claims : goal.invariant-claims
invariant-claims g l =
    let level = g.L.StoredLevel in
    let claims = claims_or_none (claims_in level.WIDTH level.decode l.n level.KIND l.certificate) in
    (goal.iterator-claims g).can_next l.claim-iterator × (goal.iterator-claims g).is_finite l.claim-iterator
    × (with_claims l.marks (claims_left level.WIDTH level.decode l.claim-iterator) ≡ with_claims l.initial.marks claims)
    × (with_levels l.levels.entries.now (claims_left level.WIDTH level.decode l.claim-iterator) ≡ with_levels l.initial.levels.entries.now claims)
    × (l.levels.entries.ghost_name ≡ l.initial.levels.entries.ghost_name)
