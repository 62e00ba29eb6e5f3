-- What a table of rounds says so far. Assumes nothing.
use Rattle.std.specs.Prelude.{ℕ, ◌&&◌, List, unwrap_or, nat_le, nat_lt}
use Rattle.tables.specs.Entries.{entry_of}
use Rattle.rules.specs.Stable.{Atoms}

-- the number of an atom in a table of rounds: 0 where no round has taken it
abbrev pub number_in : List ℕ → ℕ → ℕ
number_in rounds a = unwrap_or (entry_of rounds a) 0

-- the table says that a round before this one took the atom
abbrev pub taken_before : List ℕ → ℕ → Atoms
taken_before rounds round a = nat_le 1 (number_in rounds a) && nat_lt (number_in rounds a) round
