-- The bytes in the table of a function. Assumes nothing.
use Rattle.std.proofs.Common.{◌≡◌, ℕ, ◌-◌, ◌≤◌, eqb, get_or, ◌∙◌, arith}
use Rattle.std.proofs.lemmas.Bool.{cond-false, ne_eqb}
use Rattle.std.proofs.lemmas.List.FromFn.{get_or-map-range_with_len}
use Rattle.tables.specs.Entries.{table_of}
use Rattle.marks.specs.Marks.{byte_of}

pub byte_of_table : (f : ℕ → ℕ) (n a : ℕ) → 1 ≤ a → a ≤ n → byte_of (table_of f n) a ≡ f a
byte_of_table f n a some within =
    cond-false (eqb a 0) 0 (get_or (table_of f n) (a - 1) 0) (ne_eqb a 0 (λ z. omega arith))
    ∙ get_or-map-range_with_len f 1 n (a - 1) a 0 (omega arith) (omega arith)
