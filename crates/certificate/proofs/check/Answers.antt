use Rattle.std.proofs.Common.{rules}
use Rattle.records.proofs.Encoded.{bytes_from_fits}
use Rattle.certificate.proofs.Never.{never_too_many}
use Rattle.certificate.proofs.Relation.{reads_exactly}
use Rattle.certificate.proofs.check.Goals as goal

pub returns : goal.returns
returns g c =
    let m = g.L.StoredLevel in
    let bytes = c.args.bytes.now in
    record {
      value = search rules;
      exact = reads_exactly m.WIDTH m.encode m.decode m.stored c.args.n m.KIND bytes (bytes_from_fits bytes c.type_inv.bytes);
      never = never_too_many m.WIDTH m.decode c.args.n m.KIND bytes;
    }
