-- The marks inside a trial, and the marks when it ends. Assumes nothing.
use Rattle.std.specs.Prelude.{ℕ, List, Option, Some, None, is_ok, if◌then◌else◌}
use Rattle.tables.specs.Entries.{with_put}
use Rattle.marks.specs.Calls.{named_checked}
use Rattle.marks.specs.Marks.{with_turned}

-- the marks of n atoms inside a trial of the atom a: its byte is turned, where the trial is not refused
abbrev pub turned_marks : ℕ → List ℕ → ℕ → List ℕ
turned_marks n marks a = if is_ok (named_checked n marks a) then with_turned marks a else marks

-- the marks with the kept byte back at the atom a; as they are where none is kept
abbrev pub put_back : List ℕ → ℕ → Option ℕ → List ℕ
put_back marks a (Some byte) = with_put marks a byte
put_back marks a None = marks
