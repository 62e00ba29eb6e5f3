-- The program file, field by field, and the programs that have one. Assumes nothing.
use Rattle.std.specs.Prelude.{ℕ, ◌≤◌, List, [], ◌∷◌, ◌++◌, length}
use Rattle.std.specs.List.{flat_map}
use Rattle.records.specs.Words.{record_bytes, word_bytes}
use Rattle.rules.specs.Program.{Rule, Program, Lawful}

-- kind 1: the number of atoms, the number of rules
abbrev pub head_bytes : Program → List ℕ
head_bytes p = record_bytes 1 (word_bytes (p.atoms ∷ (length p.rules ∷ [])))

-- kind 2: the head, the number of positive atoms, the positive atoms, the negative atoms
abbrev pub rule_bytes : Rule → List ℕ
rule_bytes r = record_bytes 2 (word_bytes (r.head ∷ (length r.positive ∷ (r.positive ++ r.negative))))

-- kind 3: nothing
abbrev pub end_bytes : List ℕ
end_bytes = record_bytes 3 []

-- the file of a program: its head, its rules, its end
abbrev pub encoding : Program → List ℕ
encoding p = head_bytes p ++ (flat_map rule_bytes p.rules ++ end_bytes)

-- the program is lawful and within the limits of a file
pub record Storable (p : Program) : Type 0 where
  pub lawful : Lawful p
  pub rules_bound : length p.rules ≤ 8000
  pub size_bound : length (encoding p) ≤ 65000
