-- Numbers as levels: ordered by size, and stored in 4 bytes. Assumes nothing.
use Rattle.std.specs.Prelude.{ℕ, Bool, List, nat_lt}
use Rattle.orders.specs.LittleEndian.{bytes_of, number_in}
use Rattle.orders.specs.declared.numbers.Number.{Number}

abbrev pub less : Number → Number → Bool
less x y = nat_lt x.value y.value

-- rung k is the number k; the rungs are the numbers of 32 bits but 0
abbrev pub number : ℕ → Number
number k = record { value = k }

abbrev pub number_rungs : ℕ
number_rungs = 4294967295

abbrev pub number_kind : ℕ
number_kind = 1

abbrev pub number_width : ℕ
number_width = 4

abbrev pub number_bytes : Number → List ℕ
number_bytes x = bytes_of number_width x.value

abbrev pub number_from : List ℕ → Number
number_from bytes = number (number_in bytes)
