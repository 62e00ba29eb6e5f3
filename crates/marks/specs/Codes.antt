-- Which mark each byte stands for. Assumes nothing.
use Rattle.std.specs.Prelude.{ℕ, cond, Ok, Err, Result, ◌==◌}
use Rattle.marks.specs.declared.Mark.{Mark}
use Rattle.marks.specs.declared.Mark.TheVariants.{Out, In, Doubted}
use Rattle.marks.specs.declared.UnknownMark.{UnknownMark}

-- the mark that a byte stands for: 0 is out, 1 is in, 2 is in and doubted, and no other byte stands for one
abbrev pub mark_of : ℕ → Result Mark UnknownMark
mark_of b = cond (b == 0) (Ok Out) (cond (b == 1) (Ok In) (cond (b == 2) (Ok Doubted) (Err (record { 0 = b }))))
