-- Which bytes hold which program, in the words of the file. Assumes nothing.
use Rattle.std.specs.Prelude.{◌≡◌, ℕ, List, Ok}
use Rattle.rules.specs.Program.{Program}
use Rattle.program.specs.Encoding.{encoding, Storable}
use Rattle.program.specs.Reading.{program_in}

-- the bytes hold a program exactly when it can be stored and they are its encoding
abbrev pub ReadsExactly : List ℕ → Type 0
ReadsExactly bytes = (p : Program) → (program_in bytes ≡ Ok p → Storable p × (bytes ≡ encoding p)) × (Storable p → bytes ≡ encoding p → program_in bytes ≡ Ok p)
