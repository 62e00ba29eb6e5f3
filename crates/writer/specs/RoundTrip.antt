-- What is written can be read, and what was read is written as it stood. Assumes nothing.
use Rattle.std.specs.Prelude.{◌≡◌, ℕ, ◌≤◌, List, length, take, Ok, Result}
use Rattle.refusal.specs.declared.Refusal.{Refusal}
use Rattle.records.specs.Words.{Bytes}
use Rattle.rules.specs.Program.{Program}
use Rattle.program.specs.Encoding.{encoding, Storable}
use Rattle.program.specs.Reading.{program_in}

-- a program within the limits of a file is written where the output has room for it, and the bytes that were written read back as the program
pub record ReadsBack (p : Program) (answer : Result ℕ Refusal) (out : List ℕ) : Type 0 where
  pub written : Storable p → length (encoding p) ≤ length out → answer ≡ Ok (length (encoding p))
  pub read_back : (size : ℕ) → answer ≡ Ok size → program_in (take size out) ≡ Ok p

-- where the program was read from bytes, and the output has room for as many, the same bytes are written
abbrev pub SameBytes : Program → Result ℕ Refusal → List ℕ → Type 0
SameBytes p answer out = (bytes : List ℕ) → Bytes bytes → program_in bytes ≡ Ok p → length bytes ≤ length out → (answer ≡ Ok (length bytes)) × (take (length bytes) out ≡ bytes)
