-- Numbers as bytes, the lowest byte first. Assumes nothing.
use Rattle.std.specs.Prelude.{ℕ, zero, suc, ◌+◌, ◌*◌, ◌/◌, ◌%◌, List, [], ◌∷◌}

-- n in `width` bytes; the last one takes what is left, which is below 256 where n fits
abbrev pub bytes_of : ℕ → ℕ → List ℕ
bytes_of zero n = []
bytes_of (suc zero) n = n ∷ []
bytes_of (suc (suc width)) n = n % 256 ∷ bytes_of (suc width) (n / 256)

-- the number that the bytes hold
abbrev pub number_in : List ℕ → ℕ
number_in [] = 0
number_in (b ∷ bytes) = b + number_in bytes * 256
