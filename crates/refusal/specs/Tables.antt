-- How a table of the wrong length is refused, and an atom that is none. Assumes nothing.
use Rattle.std.specs.Prelude.{ℕ, cond, ◌&&◌, Ok, Err, Result, ◌==◌, nat_le}
use Rattle.refusal.specs.declared.Reason.TheVariants.{TableLength, CallAtom}
use Rattle.refusal.specs.declared.Layer.TheVariants.{Survey}
use Rattle.refusal.specs.declared.Refusal.{Refusal}
use Rattle.refusal.specs.Refused.{refused}

-- a table with `size` entries has one for each of n atoms
abbrev pub length_checked : ℕ → ℕ → Result (Unit {0}) Refusal
length_checked n size = cond (size == n) (Ok tt) (Err (refused Survey TableLength size))

-- the atom that a call names is one of 1 to n
abbrev pub atom_checked : ℕ → ℕ → Result (Unit {0}) Refusal
atom_checked n a = cond (nat_le 1 a && nat_le a n) (Ok tt) (Err (refused Survey CallAtom a))

-- two checks, one after the other: the first refusal counts
abbrev pub both_checked : Result (Unit {0}) Refusal → Result (Unit {0}) Refusal → Result (Unit {0}) Refusal
both_checked (Ok u) second = second
both_checked (Err e) second = Err e
