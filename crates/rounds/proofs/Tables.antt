-- What a table of rounds says of an atom, by the atom's entry. Assumes nothing.
use Rattle.std.proofs.Common.{◌≡◌, ℕ, zero, ◌-◌, ◌<◌, ◌≤◌, List, length, get_or, Some, unwrap_or, sym, ap, ◌∙◌, ⊎_elim, arith}
use Rattle.std.proofs.lemmas.Bool.{cases_lt}
use Rattle.std.proofs.lemmas.List.FromFn.{length-map-range_with_len}
use Rattle.std.proofs.lemmas.Option.{slice_get-get_or, slice_get_past}
use Rattle.tables.specs.Entries.{entry_of, table_of}
use Rattle.tables.proofs.Entries.{entry_at, entry_of_table, table_from}
use Rattle.rounds.specs.Taking.{number_in}

module _ (xs : List ℕ) (a : ℕ) where
  pub number_here : (x : ℕ) → entry_of xs a ≡ Some x → number_in xs a ≡ x
  number_here x e = ap (λ o. unwrap_or o 0) e

  pub number_past : length xs < a → number_in xs a ≡ 0
  number_past past = ap (λ o. unwrap_or o 0) (entry_at xs a (omega arith) ∙ slice_get_past xs (a - 1) (omega arith))

  pub entry_number : 1 ≤ a → a ≤ length xs → entry_of xs a ≡ Some (number_in xs a)
  entry_number some within =
      let there = entry_at xs a some ∙ slice_get-get_or xs (a - 1) 0 (omega arith) in
      there ∙ ap Some (sym (number_here (get_or xs (a - 1) 0) there))

pub table_of_numbers : (xs : List ℕ) (n : ℕ) → length xs ≡ n → xs ≡ table_of (number_in xs) n
table_of_numbers xs n long = table_from (number_in xs) n xs long (λ a some within. entry_number xs a some (omega arith))

-- a function of the atoms that is 0 for each other number is what its table says
pub number_in_table : (f : ℕ → ℕ) (n : ℕ) → f 0 ≡ 0 → ((a : ℕ) → n < a → f a ≡ 0) → (a : ℕ) → number_in (table_of f n) a ≡ f a
number_in_table f n none past zero = sym none
number_in_table f n none past a =
    ⊎_elim
    (λ beyond. number_past (table_of f n) a (omega (arith, length-map-range_with_len f 1 n)) ∙ sym (past a beyond))
    (λ within. ⊎_elim
    (λ first. let here : a ≡ 0 = omega arith in rw here (sym none))
    (λ some. number_here (table_of f n) a (f a) (entry_of_table f n a some within))
    (cases_lt a 1))
    (cases_lt n a)
