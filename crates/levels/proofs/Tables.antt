-- The levels in the table of a function. Assumes nothing.
use Rattle.std.proofs.Common.{◌≡◌, ℕ, ◌-◌, ◌≤◌, eqb, Some, None, Option, sym, refl, ap, ◌∙◌, arith}
use Rattle.std.specs.List.{slice_get}
use Rattle.std.proofs.lemmas.Bool.{cond-false, ne_eqb}
use Rattle.tables.specs.Entries.{table_of}
use Rattle.tables.proofs.Entries.{entry_at, entry_of_table}
use Rattle.levels.specs.Table.{held, level_of}

held_there : {L : Type 0} (x : Option L) → held (Some x) ≡ x
held_there None = refl
held_there (Some x) = refl

pub level_of_table : {L : Type 0} (f : ℕ → Option L) (n a : ℕ) → 1 ≤ a → a ≤ n → level_of (table_of f n) a ≡ f a
level_of_table f n a some within =
    cond-false (eqb a 0) None (held (slice_get (table_of f n) (a - 1))) (ne_eqb a 0 (λ z. omega arith))
    ∙ ap held (sym (entry_at (table_of f n) a some) ∙ entry_of_table f n a some within)
    ∙ held_there (f a)
