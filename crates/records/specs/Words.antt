-- Records and the 16-bit numbers in them, low byte first. Assumes nothing.
use Rattle.std.specs.Prelude.{ℕ, ◌+◌, ◌*◌, ◌/◌, ◌%◌, ◌<◌, List, [], ◌∷◌, ◌++◌, length, drop, Some, None, Option}
use Rattle.std.specs.List.{AllByRecursion}
use Rattle.records.specs.declared.Header.{Header}

-- each number is a byte
abbrev pub Bytes : List ℕ → Type 0
Bytes = AllByRecursion (λ b. b < 256)

-- the number that two bytes hold
abbrev pub word_of : ℕ → ℕ → ℕ
word_of low high = low + 256 * high

-- the numbers that the bytes hold, two bytes each
abbrev pub words : List ℕ → List ℕ
words [] = []
words (low ∷ []) = []
words (low ∷ (high ∷ rest)) = word_of low high ∷ words rest

-- the two bytes of a number
abbrev pub two_bytes : ℕ → List ℕ
two_bytes n = n % 256 ∷ (n / 256 ∷ [])

-- the bytes of numbers, one after the other
abbrev pub word_bytes : List ℕ → List ℕ
word_bytes [] = []
word_bytes (n ∷ ns) = two_bytes n ++ word_bytes ns

-- a record: its length, its kind, then its contents
abbrev pub record_bytes : ℕ → List ℕ → List ℕ
record_bytes kind contents = two_bytes (length contents) ++ (two_bytes kind ++ contents)

-- the length and the kind that the first four bytes state
abbrev pub header_of : List ℕ → Option Header
header_of [] = None
header_of (a ∷ []) = None
header_of (a ∷ (b ∷ [])) = None
header_of (a ∷ (b ∷ (c ∷ []))) = None
header_of (a ∷ (b ∷ (c ∷ (d ∷ rest)))) = Some (record { length = word_of a b; kind = word_of c d })

-- the number that the first two bytes hold
abbrev pub first_word : List ℕ → Option ℕ
first_word [] = None
first_word (low ∷ []) = None
first_word (low ∷ (high ∷ rest)) = Some (word_of low high)

-- the number that two bytes hold at a place
abbrev pub word_at : List ℕ → ℕ → Option ℕ
word_at bytes place = first_word (drop place bytes)
