-- What the calls mark, unmark and doubt answer, and the marks afterwards. Assumes nothing.
use Rattle.std.specs.Prelude.{ℕ, cond, List, length, is_ok, Some, None, Ok, Err, Option, Result, if◌then◌else◌}
use Rattle.refusal.specs.Tables.{atom_checked, length_checked, both_checked}
use Rattle.refusal.specs.Refused.{refused}
use Rattle.refusal.specs.declared.Reason.TheVariants.{MarkByte, Unmarked}
use Rattle.refusal.specs.declared.Layer.TheVariants.{Survey}
use Rattle.refusal.specs.declared.Refusal.{Refusal}
use Rattle.marks.specs.Marks.{lowest_unlawful, marked, with_in, with_out, with_doubt}

-- every byte has a meaning, or the lowest atom is named whose byte has none
abbrev pub bytes_checked : Option ℕ → Result (Unit {0}) Refusal
bytes_checked (Some a) = Err (refused Survey MarkByte a)
bytes_checked None = Ok tt

-- the table has one byte for each of n atoms, and every byte has a meaning
abbrev pub marks_checked : ℕ → List ℕ → Result (Unit {0}) Refusal
marks_checked n marks = both_checked (length_checked n (length marks)) (bytes_checked (lowest_unlawful marks))

-- the marks of n atoms, and an atom that a call names
abbrev pub named_checked : ℕ → List ℕ → ℕ → Result (Unit {0}) Refusal
named_checked n marks a = both_checked (marks_checked n marks) (atom_checked n a)

-- the atom is marked
abbrev pub marked_checked : List ℕ → ℕ → Result (Unit {0}) Refusal
marked_checked marks a = cond (marked marks a) (Ok tt) (Err (refused Survey Unmarked a))

-- what doubt answers
abbrev pub doubt_checked : ℕ → List ℕ → ℕ → Result (Unit {0}) Refusal
doubt_checked n marks a = both_checked (named_checked n marks a) (marked_checked marks a)

-- the marks after mark: 1 at the atom, where mark is accepted
abbrev pub after_mark : ℕ → List ℕ → ℕ → List ℕ
after_mark n marks a = if is_ok (named_checked n marks a) then with_in marks a else marks

-- the marks after unmark: 0 at the atom, where unmark is accepted
abbrev pub after_unmark : ℕ → List ℕ → ℕ → List ℕ
after_unmark n marks a = if is_ok (named_checked n marks a) then with_out marks a else marks

-- the marks after doubt: 2 at the atom, where doubt is accepted
abbrev pub after_doubt : ℕ → List ℕ → ℕ → List ℕ
after_doubt n marks a = if is_ok (doubt_checked n marks a) then with_doubt marks a else marks
