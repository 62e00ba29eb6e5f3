-- Chains and lists of items, when an array is written at one place. Assumes nothing.
use Rattle.std.proofs.Common.{◌≡◌, ℕ, ◌≤◌, ◌<◌, false, eqb, List, [], ◌∷◌, get_or, replicate, set, sym, refl, ap, subst, ⊎_elim, arith}
use Rattle.std.proofs.lemmas.Bool.{both_ways, cases_lt, eq-eqb, or_parts}
use Rattle.std.proofs.lemmas.List.{get_or-replicate, get_or-set_other, get_or_past, length-replicate}
use Rattle.rules.specs.Tests.{member}
use Rattle.waiting.specs.Linked.{Chain}

pub read_zeros : (n i : ℕ) → ◌≡◌ {A = ℕ} (get_or (replicate n 0) i 0) 0
read_zeros n i =
    ⊎_elim
    (λ inside. get_or-replicate n i 0 0 inside)
    (λ past. get_or_past (replicate n 0) i 0 (omega (arith, past, length-replicate {A = ℕ} n 0)))
    (cases_lt i n)

-- a number that is no member of a list is none of its numbers
apart_head : (item y : ℕ) (rest : List ℕ) → member item (y ∷ rest) ≡ false → y ≡ item → ⊥
apart_head item y rest out same = both_ways (eqb item y) (or_parts (eqb item y) (member item rest) out).0 (eq-eqb item y (sym same))

module _ (places : ℕ) (next : List ℕ) (item v : ℕ) where
  -- a chain without the item does not read what is written at it
  pub chain_kept : (x : ℕ) (l : List ℕ) → member item l ≡ false → Chain places next x l → Chain places (set next item v) x l
  chain_kept x [] out c = c
  chain_kept x (y ∷ rest) out c =
      let read = get_or-set_other next item y v 0 (apart_head item y rest out) in
      let later = chain_kept (get_or next y 0) rest (or_parts (eqb item y) (member item rest) out).1 c.3 in
      (c.0, c.1, c.2, subst (λ z. Chain places (set next item v) z rest) (sym read) later)

module _ (places : ℕ) (next : List ℕ) where
  pub chain_nonzero : (x : ℕ) (l : List ℕ) → Chain places next x l → 1 ≤ x → (rest : List ℕ) × (l ≡ x ∷ rest) × (x < places) × Chain places next (get_or next x 0) rest
  chain_nonzero x [] c some = absurd (omega (arith, c, some))
  chain_nonzero x (y ∷ rest) c some =
      (rest, ap (λ z. z ∷ rest) (sym c.0), omega (arith, c.0, c.2), subst (λ z. Chain places next (get_or next z 0) rest) (sym c.0) c.3)

  pub chain_zero : (x : ℕ) (l : List ℕ) → Chain places next x l → x ≡ 0 → l ≡ []
  chain_zero x [] c none = refl
  chain_zero x (y ∷ rest) c none = absurd (omega (arith, c.0, c.1, none))
