-- What a table with one entry for each of the atoms 1, 2, .. says: entry a - 1 is that of the atom a. Assumes nothing.
use Rattle.std.specs.Prelude.{ℕ, ◌-◌, cond, List, map, None, Option, ◌==◌, slice_set}
use Rattle.std.specs.List.{range_with_len, slice_get}

-- the entry of the atom a: none for 0, and past the end
abbrev pub entry_of : {T : Type 0} → List T → ℕ → Option T
entry_of entries a = cond (a == 0) None (slice_get entries (a - 1))

-- the entries with x at the atom a; as they are for 0 and past the end
abbrev pub with_put : {T : Type 0} → List T → ℕ → T → List T
with_put entries a x = cond (a == 0) entries (slice_set entries (a - 1) x)

-- the table of n entries where each atom a has the entry f a
abbrev pub table_of : {T : Type 0} → (ℕ → T) → ℕ → List T
table_of f n = map f (range_with_len 1 n)
