-- What a checked program file stands for. Assumes nothing.
use Rattle.std.specs.Prelude.{Ok, Err, Result}
use Rattle.refusal.specs.declared.Refusal.{Refusal}
use Rattle.rules.specs.Program.{Program}
use Rattle.program.specs.Reading.{program_in, read_or_empty}
use Rattle.program_file.specs.declared.file.ProgramFile.{ProgramFile}

-- the program that the file's bytes hold
abbrev pub program_of : ProgramFile → Program
program_of f = read_or_empty (program_in f.bytes.now)

-- the program that the file stands for, where there is one
abbrev pub program_read : Result ProgramFile Refusal → Result Program Refusal
program_read (Ok f) = Ok (program_of f)
program_read (Err e) = Err e
