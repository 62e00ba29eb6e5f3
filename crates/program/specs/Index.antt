-- Where the records of a program file begin. Assumes nothing.
use Rattle.std.specs.Prelude.{ℕ, ◌+◌, ◌*◌, List, [], ◌∷◌, length, replicate, Ok, Err, Result, slice_set}
use Rattle.refusal.specs.declared.Refusal.{Refusal}
use Rattle.rules.specs.Program.{Rule, Program}
use Rattle.program.specs.declared.reader.Index.{Index}

-- the bytes of a rule's record
abbrev pub rule_size : Rule → ℕ
rule_size r = 8 + 2 * (length r.positive + length r.negative)

-- the table of places, filled from entry k on with where each of the rules begins, the first at `place`
abbrev pub with_starts : List ℕ → ℕ → ℕ → List Rule → List ℕ
with_starts starts k place [] = starts
with_starts starts k place (r ∷ rs) = with_starts (slice_set starts k place) (k + 1) (place + rule_size r) rs

-- the index of the program's file: its first rule begins at byte 8, and places that no rule needs are 0
abbrev pub index_of : Program → Index
index_of p = record { atoms = p.atoms; count = length p.rules; starts = with_starts (replicate 8000 0) 0 8 p.rules }

abbrev pub indexed : Result Program Refusal → Result Index Refusal
indexed (Ok p) = Ok (index_of p)
indexed (Err e) = Err e

-- the index that the rules from here on complete
abbrev pub indexed_from : ℕ → List ℕ → ℕ → ℕ → Result (List Rule) Refusal → Result Index Refusal
indexed_from n starts k place (Ok rs) = Ok (record { atoms = n; count = k + length rs; starts = with_starts starts k place rs })
indexed_from n starts k place (Err e) = Err e
