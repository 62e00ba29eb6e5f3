-- What a table of bytes or of levels says of an atom, by the atom's entry. Assumes nothing.
use Rattle.std.proofs.Common.{◌≡◌, ℕ, ◌-◌, ◌≤◌, true, false, cond, eqb, List, length, get_or, Some, None, Option, unwrap_or, sym, refl, ap, ◌∙◌, arith}
use Rattle.std.specs.List.{slice_get}
use Rattle.std.proofs.lemmas.Bool.{cond-false, ne_eqb}
use Rattle.std.proofs.lemmas.Option.{slice_get-get_or, unwrap_or-slice_get}
use Rattle.tables.specs.Entries.{entry_of, table_of}
use Rattle.tables.proofs.Entries.{entry_at, table_from}
use Rattle.levels.specs.Table.{held, level_of}
use Rattle.marks.specs.Marks.{byte_of}
use Rattle.rounds.specs.Taking.{number_in}
use Rattle.rounds.proofs.Tables.{entry_number, number_here}

-- BYTES

module _ (xs : List ℕ) (a : ℕ) where
  -- a byte is read like a number
  pub byte_number : byte_of xs a ≡ number_in xs a
  byte_number = elim (eqb a 0) as (λ t. cond t 0 (get_or xs (a - 1) 0) ≡ unwrap_or (cond t None (slice_get xs (a - 1))) 0) [ true ↦ refl | false ↦ sym (unwrap_or-slice_get xs (a - 1) 0) ]

  pub byte_here : (x : ℕ) → entry_of xs a ≡ Some x → byte_of xs a ≡ x
  byte_here x e = byte_number ∙ number_here xs a x e

pub table_of_bytes : (xs : List ℕ) (n : ℕ) → length xs ≡ n → xs ≡ table_of (byte_of xs) n
table_of_bytes xs n long = table_from (byte_of xs) n xs long (λ a some within. entry_number xs a some (omega arith) ∙ ap Some (sym (byte_number xs a)))

-- LEVELS

module _ {L : Type 0} (entries : List (Option L)) (a : ℕ) where
  held_here : (x : Option L) → held (Some x) ≡ x
  held_here None = refl
  held_here (Some x) = refl

  pub level_here : (x : Option L) → entry_of entries a ≡ Some x → 1 ≤ a → level_of entries a ≡ x
  level_here x e some =
      cond-false (eqb a 0) None (held (slice_get entries (a - 1))) (ne_eqb a 0 (λ z. omega arith))
      ∙ ap held (sym (entry_at entries a some) ∙ e)
      ∙ held_here x

  pub entry_level : 1 ≤ a → a ≤ length entries → entry_of entries a ≡ Some (level_of entries a)
  entry_level some within =
      let there = entry_at entries a some ∙ slice_get-get_or entries (a - 1) None (omega arith) in
      there ∙ ap Some (sym (level_here (get_or entries (a - 1) None) there some))

pub table_of_levels : {L : Type 0} (entries : List (Option L)) (n : ℕ) → length entries ≡ n → entries ≡ table_of (level_of entries) n
table_of_levels entries n long = table_from (level_of entries) n entries long (λ a some within. entry_level entries a some (omega arith))
