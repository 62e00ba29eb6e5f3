-- The entries of a table, and the table of a function. Assumes nothing.
use Rattle.std.proofs.Common.{◌≡◌, ℕ, zero, suc, ◌+◌, ◌-◌, ◌<◌, ◌≤◌, true, false, cond, eqb, ltb, List, [], ◌∷◌, length, set, replicate, Some, None, sym, refl, ap, ◌∙◌, ⊎_elim, arith}
use Rattle.std.specs.List.{slice_get}
use Rattle.std.proofs.lemmas.Bool.{cases_eq, cases_lt, cond-false, cond-true, le-ltb, lt-ltb, ne_eqb}
use Rattle.std.proofs.lemmas.List.{get_or-replicate, length-replicate, length-set, same_lists}
use Rattle.std.proofs.lemmas.List.FromFn.{get_or-map-range_with_len, length-map-range_with_len}
use Rattle.std.proofs.lemmas.Option.{get_or_from_slice_get, slice_get-get_or}
use Rattle.tables.specs.Entries.{entry_of, table_of, with_put}

-- ONE ENTRY

module _ {T : Type 0} (y : T) where
  pub nth_set_same : (xs : List T) (i : ℕ) → i < length xs → slice_get (set xs i y) i ≡ Some y
  nth_set_same [] i there = absurd (omega arith)
  nth_set_same (x ∷ xs) zero there = refl
  nth_set_same (x ∷ xs) (suc i) there = nth_set_same xs i (omega arith)

  pub nth_set_other : (xs : List T) (i j : ℕ) → (j ≡ i → ⊥) → slice_get (set xs i y) j ≡ slice_get xs j
  nth_set_other [] i j apart = refl
  nth_set_other (x ∷ xs) zero zero apart = absurd (apart refl)
  nth_set_other (x ∷ xs) zero (suc j) apart = refl
  nth_set_other (x ∷ xs) (suc i) zero apart = refl
  nth_set_other (x ∷ xs) (suc i) (suc j) apart = nth_set_other xs i j (λ e. apart (ap suc e))

module _ {T : Type 0} (xs : List T) (a : ℕ) where
  -- the entry of an atom by its place
  pub entry_at : 1 ≤ a → entry_of xs a ≡ slice_get xs (a - 1)
  entry_at some = cond-false (eqb a 0) None (slice_get xs (a - 1)) (ne_eqb a 0 (λ z. omega arith))

  module _ (y : T) where
    pub length-with_put : length (with_put xs a y) ≡ length xs
    length-with_put = elim (eqb a 0) as (λ t. length (cond t xs (set xs (a - 1) y)) ≡ length xs) [ true ↦ refl | false ↦ length-set xs (a - 1) y ]

    pub entry_put_here : 1 ≤ a → a ≤ length xs → entry_of (with_put xs a y) a ≡ Some y
    entry_put_here some there =
        let placed : eqb a 0 ≡ false = ne_eqb a 0 (λ z. omega arith) in
        rw placed (nth_set_same y xs (a - 1) (omega arith))

    pub entry_put_apart : (b : ℕ) → (b ≡ a → ⊥) → 1 ≤ a → entry_of (with_put xs a y) b ≡ entry_of xs b
    entry_put_apart zero apart some = refl
    entry_put_apart (suc b) apart some =
        let placed : eqb a 0 ≡ false = ne_eqb a 0 (λ z. omega arith) in
        rw placed (ap (λ o. cond (eqb (suc b) 0) None o) (nth_set_other y xs (a - 1) (suc b - 1) (λ e. apart (omega arith))))

-- TABLES

module _ {T : Type 0} (f : ℕ → T) (n : ℕ) where
  pub entry_of_table : (a : ℕ) → 1 ≤ a → a ≤ n → entry_of (table_of f n) a ≡ Some (f a)
  entry_of_table a some within =
      let long = length-map-range_with_len f 1 n in
      entry_at (table_of f n) a some
      ∙ slice_get-get_or (table_of f n) (a - 1) (f a) (omega arith)
      ∙ ap Some (get_or-map-range_with_len f 1 n (a - 1) a (f a) (omega arith) (omega arith))

  -- a list with one entry for each atom, where each atom has the entry f a
  pub table_from : (xs : List T) → length xs ≡ n → ((a : ℕ) → 1 ≤ a → a ≤ n → entry_of xs a ≡ Some (f a)) → xs ≡ table_of f n
  table_from xs long at =
      same_lists xs (table_of f n) (long ∙ sym (length-map-range_with_len f 1 n))
      (λ k d h.
      get_or_from_slice_get xs k (f (k + 1)) d (let place : k + 1 - 1 ≡ k = omega arith in ap (slice_get xs) (sym place) ∙ sym (entry_at xs (k + 1) (omega arith)) ∙ at (k + 1) (omega arith) (omega arith))
      ∙ sym (get_or-map-range_with_len f 1 n k (k + 1) d (omega arith) (omega arith)))

module _ {T : Type 0} (f g : ℕ → T) (n : ℕ) where
  pub table_same : ((a : ℕ) → 1 ≤ a → a ≤ n → f a ≡ g a) → table_of f n ≡ table_of g n
  table_same same = table_from g n (table_of f n) (length-map-range_with_len f 1 n) (λ a some within. entry_of_table f n a some within ∙ ap Some (same a some within))

  -- where f and g differ at k alone
  pub table_put : (k : ℕ) → ((a : ℕ) → 1 ≤ a → (a ≡ k → ⊥) → f a ≡ g a) → with_put (table_of f n) k (g k) ≡ table_of g n
  table_put zero same = table_same (λ a some within. same a some (λ z. omega arith))
  table_put (suc k) same =
      let long = length-map-range_with_len f 1 n in
      table_from g n (with_put (table_of f n) (suc k) (g (suc k))) (length-with_put (table_of f n) (suc k) (g (suc k)) ∙ long)
      (λ a some within. ⊎_elim
      (λ (here : a ≡ suc k). rw here (entry_put_here (table_of f n) (suc k) (g (suc k)) (omega arith) (omega arith)))
      (λ apart. entry_put_apart (table_of f n) (suc k) (g (suc k)) a apart (omega arith) ∙ entry_of_table f n a some within ∙ ap Some (same a some apart))
      (cases_eq a (suc k)))

pub table_replicate : {T : Type 0} (y : T) (n : ℕ) → replicate n y ≡ table_of (λ a. y) n
table_replicate y n =
    table_from (λ a. y) n (replicate n y) (length-replicate n y)
    (λ a some within.
    let long = length-replicate n y in
    entry_at (replicate n y) a some
    ∙ slice_get-get_or (replicate n y) (a - 1) y (omega arith)
    ∙ ap Some (get_or-replicate n (a - 1) y y (omega arith)))

-- A TABLE THAT IS CHANGED ATOM BY ATOM

module _ {T : Type 0} (f g : ℕ → T) where
  -- f of the atoms before k, and g of the others
  abbrev pub before : ℕ → ℕ → T
  before k a = cond (ltb a k) (f a) (g a)

  before_earlier : (k a : ℕ) → a < k → before k a ≡ f a
  before_earlier k a early = cond-true (ltb a k) (f a) (g a) (lt-ltb a k early)

  before_later : (k a : ℕ) → k ≤ a → before k a ≡ g a
  before_later k a late = cond-false (ltb a k) (f a) (g a) (le-ltb a k late)

  module _ (n : ℕ) where
    -- the table of n atoms, where those before k are changed from g to f
    abbrev pub changed : ℕ → List T
    changed k = table_of (before k) n

    pub changed_none : table_of g n ≡ changed 1
    changed_none = table_same g (before 1) n (λ a some within. sym (before_later 1 a some))

    pub changed_all : (k : ℕ) → n < k → changed k ≡ table_of f n
    changed_all k past = table_same (before k) f n (λ a some within. before_earlier k a (omega arith))

    module _ (k : ℕ) where
      pub changed_next : 1 ≤ k → k ≤ n → entry_of (changed k) k ≡ Some (g k)
      changed_next some within = entry_of_table (before k) n k some within ∙ ap Some (before_later k k (omega arith))

      before_more : (a : ℕ) → (a ≡ k → ⊥) → before k a ≡ before (k + 1) a
      before_more a apart =
          ⊎_elim
          (λ early. before_earlier k a early ∙ sym (before_earlier (k + 1) a (omega arith)))
          (λ late. before_later k a late ∙ sym (before_later (k + 1) a (omega arith)))
          (cases_lt a k)

      pub changed_kept : f k ≡ g k → changed k ≡ changed (k + 1)
      changed_kept same =
          table_same (before k) (before (k + 1)) n
          (λ a some within. ⊎_elim
          (λ (here : a ≡ k). rw here (before_later k k (omega arith) ∙ sym same ∙ sym (before_earlier (k + 1) k (omega arith))))
          (before_more a)
          (cases_eq a k))

      pub changed_put : 1 ≤ k → with_put (changed k) k (f k) ≡ changed (k + 1)
      changed_put first = ap (with_put (changed k) k) (sym (before_earlier (k + 1) k (omega arith))) ∙ table_put (before k) (before (k + 1)) n k (λ a some apart. before_more a apart)

      -- the atom k is changed back
      pub changed_back : with_put (changed (k + 1)) k (g k) ≡ changed k
      changed_back = ap (with_put (changed (k + 1)) k) (sym (before_later k k (omega arith))) ∙ table_put (before (k + 1)) (before k) n k (λ a some apart. sym (before_more a apart))
