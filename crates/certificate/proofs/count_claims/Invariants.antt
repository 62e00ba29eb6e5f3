use Rattle.std.proofs.Common.{length}
use Rattle.certificate.specs.Reading.{claims_from, counted}
use Rattle.certificate.proofs.Turns.{SoFar}
use Rattle.certificate.proofs.count_claims.Given as goal

-- what is left gives the answer
abbrev pub invariant-records : goal.invariant-records
invariant-records g l =
    let m = g.L.StoredLevel in
    record {
      so_far : SoFar m.WIDTH m.decode l.n l.count l.last l.rest.bytes.now l.rest.place (counted (claims_from m.WIDTH m.decode l.n l.n 0 l.records.bytes.now l.records.place));
    }

abbrev pub decreases-records : goal.decreases-records
decreases-records g l = length l.rest.bytes.now
