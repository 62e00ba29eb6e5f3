-- The index that checking gave is that of the program in the bytes.
use Rattle.program_file.proofs.Starts.{from_indexed}
use Rattle.program.specs.Reading.{program_in}
use Rattle.program_file.proofs.file.ProgramFile.over.Goals as goal

pub invariant_of-result : goal.invariant_of-result
invariant_of-result c = let known = from_indexed (program_in c.args.bytes.now) c.args.index c.requires.checked in record { checked = known.0; indexed = known.1 }
