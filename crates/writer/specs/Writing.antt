-- A program put out as a file: what is answered, and the output afterwards. Assumes nothing.
use Rattle.std.specs.Prelude.{ℕ, cond, List, ◌++◌, length, drop, is_ok, Ok, Err, Result, nat_le}
use Rattle.std.specs.List.{flat_map}
use Rattle.refusal.specs.declared.Reason.{Reason}
use Rattle.refusal.specs.declared.Reason.TheVariants.{Limit, Output}
use Rattle.refusal.specs.declared.Layer.TheVariants.{Writer}
use Rattle.refusal.specs.declared.Refusal.{Refusal}
use Rattle.refusal.specs.Refused.{refused}
use Rattle.rules.specs.Program.{Program}
use Rattle.program.specs.Encoding.{head_bytes, rule_bytes, encoding}

abbrev pub refusal_at : Reason → ℕ → Refusal
refusal_at reason place = refused Writer reason place

-- how long the file is, within the limits of a file: first that of rules, then that of bytes
abbrev pub size_checked : Program → Result ℕ Refusal
size_checked p =
    cond (nat_le (length p.rules) 8000)
    (cond (nat_le (length (encoding p)) 65000) (Ok (length (encoding p))) (Err (refusal_at Limit 65000)))
    (Err (refusal_at Limit 8000))

-- the file finds room in the output
abbrev pub room_checked : ℕ → Result ℕ Refusal → Result ℕ Refusal
room_checked room (Ok size) = cond (nat_le size room) (Ok size) (Err (refusal_at Output size))
room_checked room (Err e) = Err e

-- what is answered for an output of so many bytes: how many of them the file takes, or the refusal
abbrev pub write_answer : Program → ℕ → Result ℕ Refusal
write_answer p room = room_checked room (size_checked p)

-- bytes at the front of an output; what follows them stays
abbrev pub laid_over : List ℕ → List ℕ → List ℕ
laid_over bytes out = bytes ++ drop (length bytes) out

-- a program's file without its end
abbrev pub before_end : Program → List ℕ
before_end p = head_bytes p ++ flat_map rule_bytes p.rules

-- the output afterwards: the file at its front, or as it was
abbrev pub output_after : Program → List ℕ → List ℕ
output_after p out = cond (is_ok (write_answer p (length out))) (laid_over (encoding p) out) out
