-- On each way, the bytes hold a program exactly when they are its encoding.
use Rattle.std.proofs.Common.{rules}
use Rattle.records.proofs.Encoded.{bytes_from_fits}
use Rattle.program.proofs.Relation.{reads_exactly}
use Rattle.program.proofs.reader.check.Goals as goal

pub returns-in_err-file : goal.returns-in_err-file
returns-in_err-file c =
    let bytes = c.args.bytes.now in
    record { value = search rules; exact = reads_exactly bytes (bytes_from_fits bytes c.type_inv.bytes) }

pub returns-in_err-head : goal.returns-in_err-head
returns-in_err-head c =
    let bytes = c.args.bytes.now in
    record { value = search rules; exact = reads_exactly bytes (bytes_from_fits bytes c.type_inv.bytes) }

pub returns : goal.returns
returns c =
    let bytes = c.args.bytes.now in
    record { value = search rules; exact = reads_exactly bytes (bytes_from_fits bytes c.type_inv.bytes) }
