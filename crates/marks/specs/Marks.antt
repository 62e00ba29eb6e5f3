-- What a mark table says: byte a - 1 is that of the atom a; 0 is out, 1 is in, 2 is in and doubted. Assumes nothing.
use Rattle.std.specs.Prelude.{ℕ, ◌-◌, Bool, cond, not, ◌||◌, List, length, Option, ◌==◌, nat_le, slice_index}
use Rattle.tables.specs.Entries.{with_put}
use Rattle.rules.specs.Tests.{lowest, tally}

-- the byte has a meaning
abbrev pub lawful_byte : ℕ → Bool
lawful_byte b = nat_le b 2

-- the byte says that its atom is in
abbrev pub in_byte : ℕ → Bool
in_byte b = b == 1 || b == 2

-- the byte of the atom a; that of an atom out for 0 and past the end
abbrev pub byte_of : List ℕ → ℕ → ℕ
byte_of marks a = cond (a == 0) 0 (slice_index marks (a - 1))

-- the byte says that its atom is in and doubted
abbrev pub doubted_byte : ℕ → Bool
doubted_byte b = b == 2

-- the byte that a search for what is left over gives to an atom: 2 for one that is in and left over, 1 for one that is in and not, and elsewhere the byte as it is
abbrev pub sifted : Bool → ℕ → ℕ
sifted left b = cond (in_byte b) (cond left 2 1) b

-- the byte that a trial gives to its atom: 0 for one that is in, and 1 for one that is not
abbrev pub turned : ℕ → ℕ
turned b = cond (in_byte b) 0 1

-- the set of the marked atoms
abbrev pub marked : List ℕ → ℕ → Bool
marked marks a = in_byte (byte_of marks a)

-- the set of the doubted atoms
abbrev pub doubted : List ℕ → ℕ → Bool
doubted marks a = doubted_byte (byte_of marks a)

-- the lowest atom whose byte has no meaning
abbrev pub lowest_unlawful : List ℕ → Option ℕ
lowest_unlawful marks = lowest (λ a. not (lawful_byte (byte_of marks a))) (length marks)

-- how many atoms are marked
abbrev pub marked_count : List ℕ → ℕ
marked_count marks = tally (marked marks) (length marks)

-- how many atoms are doubted
abbrev pub doubted_count : List ℕ → ℕ
doubted_count marks = tally (doubted marks) (length marks)

-- the marks with the atom a in; as they are for 0 and past the end
abbrev pub with_in : List ℕ → ℕ → List ℕ
with_in marks a = with_put marks a 1

-- the marks with the atom a out; as they are for 0 and past the end
abbrev pub with_out : List ℕ → ℕ → List ℕ
with_out marks a = with_put marks a 0

-- the marks with the atom a in and doubted; as they are for 0 and past the end
abbrev pub with_doubt : List ℕ → ℕ → List ℕ
with_doubt marks a = with_put marks a 2

-- the marks with the byte of the atom a turned; as they are for 0 and past the end
abbrev pub with_turned : List ℕ → ℕ → List ℕ
with_turned marks a = with_put marks a (turned (byte_of marks a))
