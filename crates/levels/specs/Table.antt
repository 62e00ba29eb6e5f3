-- What a level table holds: entry a - 1 is that of the atom a. Assumes nothing.
use Rattle.std.specs.Prelude.{ℕ, ◌-◌, cond, List, Some, None, Option, ◌==◌}
use Rattle.std.specs.List.{slice_get}
use Rattle.tables.specs.Entries.{with_put}

-- the level in an entry that may be absent
abbrev pub held : {L : Type 0} → Option (Option L) → Option L
held None = None
held (Some None) = None
held (Some (Some x)) = Some x

-- the level of the atom a: none where its entry is empty, for 0, and past the end
abbrev pub level_of : {L : Type 0} → List (Option L) → ℕ → Option L
level_of entries a = cond (a == 0) None (held (slice_get entries (a - 1)))

-- the entries with the level x at the atom a; as they are for 0 and past the end
abbrev pub with_level : {L : Type 0} → List (Option L) → ℕ → L → List (Option L)
with_level entries a x = with_put entries a (Some x)
