-- Proofs: what a checked file stands for is lawful. Assumes nothing.
use Rattle.std.specs.Prelude.{refl}
use Rattle.rules.specs.Program.{Lawful}
use Rattle.program.specs.Lawful.{read_lawful}
use Rattle.program.specs.Reading.{program_in}
use Rattle.program_file.specs.File.{program_of}
use Rattle.program_file.specs.declared.file.ProgramFile.{ProgramFile}

-- the program that a file stands for is lawful
pub file_lawful : (f : ProgramFile) → Lawful (program_of f)
file_lawful f = read_lawful f.bytes.now (program_in f.bytes.now) refl
