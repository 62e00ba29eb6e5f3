-- What the call level answers, and the entries afterwards. Assumes nothing.
use Rattle.std.specs.Prelude.{ℕ, List, length, is_ok, Option, Result, if◌then◌else◌}
use Rattle.refusal.specs.Tables.{atom_checked, length_checked, both_checked}
use Rattle.refusal.specs.declared.Refusal.{Refusal}
use Rattle.levels.specs.Table.{with_level}

-- the table has `size` entries, one for each of n atoms, and the atom that the call names is one of them
abbrev pub level_checked : ℕ → ℕ → ℕ → Result (Unit {0}) Refusal
level_checked n size a = both_checked (length_checked n size) (atom_checked n a)

-- the entries after level: the level x at the atom, where level is accepted
abbrev pub after_level : {L : Type 0} → ℕ → List (Option L) → ℕ → L → List (Option L)
after_level n entries a x = if is_ok (level_checked n (length entries) a) then with_level entries a x else entries
