-- Two ascending lists are compared by dropping the smaller of their first numbers. Assumes nothing.
use Rattle.std.proofs.Common.{◌≡◌, ℕ, ◌<◌, ◌≤◌, Bool, true, false, not, ◌&&◌, ◌||◌, ltb, List, [], ◌∷◌, length, sym, refl, ap, ◌∙◌, arith}
use Rattle.std.proofs.lemmas.Bool.{ltb-true, ne_eqb, eq-eqb, and_parts}
use Rattle.records.specs.Words.{words}
use Rattle.records.proofs.Words.{tail_of, words_more, words_none}
use Rattle.rules.specs.Program.{ascends_above, ascending, disjoint}
use Rattle.rules.specs.Tests.{member}
use Rattle.program.proofs.Walks.{here}

-- an ascending list lies above its bound
pub not-member : (a low : ℕ) (ys : List ℕ) → a ≤ low → ascends_above low ys ≡ true → member a ys ≡ false
not-member a low [] h asc = refl
not-member a low (y ∷ ys) h asc =
    let both = and_parts (ltb low y) (ascends_above y ys) asc in
    let less : low < y = ltb-true low y both.0 in
    ap (λ b. b || member a ys) (ne_eqb a y (λ e. omega arith)) ∙ not-member a y ys (omega arith) both.1

-- a number at or below the bound is not in an ascending list, so it changes nothing
pub disjoint_below : (b low : ℕ) (ys xs : List ℕ) → b ≤ low → ascends_above low xs ≡ true → disjoint xs (b ∷ ys) ≡ disjoint xs ys
disjoint_below b low ys [] h asc = refl
disjoint_below b low ys (x ∷ xs) h asc =
    let both = and_parts (ltb low x) (ascends_above x xs) asc in
    let less : low < x = ltb-true low x both.0 in
    ap (λ t. not (t || member x ys) && disjoint xs (b ∷ ys)) (ne_eqb x b (λ e. omega arith)) ∙ ap (λ t. not (member x ys) && t) (disjoint_below b x ys xs (omega arith) both.1)

pub disjoint_none : (xs : List ℕ) → disjoint xs [] ≡ true
disjoint_none [] = refl
disjoint_none (x ∷ xs) = disjoint_none xs

pub ascending_rest : (x : ℕ) (xs : List ℕ) → ascending (x ∷ xs) ≡ true → ascending xs ≡ true
ascending_rest x [] asc = refl
ascending_rest x (y ∷ ys) asc = (and_parts (ltb x y) (ascends_above y ys) asc).1

-- the smaller first number stands on the left
pub less_left : (a b : ℕ) (xs ys : List ℕ) → a < b → ascending (b ∷ ys) ≡ true → disjoint (a ∷ xs) (b ∷ ys) ≡ disjoint xs (b ∷ ys)
less_left a b xs ys h asc = ap (λ t. not (t || member a ys) && disjoint xs (b ∷ ys)) (ne_eqb a b (λ e. omega arith)) ∙ ap (λ t. not t && disjoint xs (b ∷ ys)) (not-member a b ys (omega arith) asc)

-- the smaller first number stands on the right
pub less_right : (a b : ℕ) (xs ys : List ℕ) → b < a → ascending (a ∷ xs) ≡ true → disjoint (a ∷ xs) (b ∷ ys) ≡ disjoint (a ∷ xs) ys
less_right a b xs ys h asc = ap (λ t. not (t || member a ys) && disjoint xs (b ∷ ys)) (ne_eqb a b (λ e. omega arith)) ∙ ap (λ t. not (member a ys) && t) (disjoint_below b a ys xs (omega arith) asc)

pub same_first : (a b : ℕ) (xs ys : List ℕ) → a ≡ b → disjoint (a ∷ xs) (b ∷ ys) ≡ false
same_first a b xs ys e = ap (λ t. not (t || member a ys) && disjoint xs (b ∷ ys)) (eq-eqb a b e)

-- two parts that ascend, and whether what is left of them is disjoint
pub record Apart (xs ys : List ℕ) (answer : Bool) : Type 0 where
  pub left : ascending (words xs) ≡ true
  pub right : ascending (words ys) ≡ true
  pub so_far : disjoint (words xs) (words ys) ≡ answer

module _ (xs ys : List ℕ) (answer : Bool) (apart : Apart xs ys answer) where
  pub apart_no_right : length ys < 2 → true ≡ answer
  apart_no_right h = sym (disjoint_none (words xs)) ∙ (ap (disjoint (words xs)) (sym (words_none ys h)) ∙ apart.so_far)

  module _ (xs_long : 2 ≤ length xs) (ys_long : 2 ≤ length ys) where
    first_left : ascending (here xs ∷ words (tail_of xs)) ≡ true
    first_left = ap ascending (sym (words_more xs xs_long)) ∙ apart.left

    first_right : ascending (here ys ∷ words (tail_of ys)) ≡ true
    first_right = ap ascending (sym (words_more ys ys_long)) ∙ apart.right

    both_first : disjoint (here xs ∷ words (tail_of xs)) (here ys ∷ words (tail_of ys)) ≡ answer
    both_first = ap (λ t. disjoint t (here ys ∷ words (tail_of ys))) (sym (words_more xs xs_long)) ∙ (ap (disjoint (words xs)) (sym (words_more ys ys_long)) ∙ apart.so_far)

    pub apart_same : here xs ≡ here ys → false ≡ answer
    apart_same e = sym (same_first (here xs) (here ys) (words (tail_of xs)) (words (tail_of ys)) e) ∙ both_first

    pub apart_less : here xs < here ys → Apart (tail_of xs) ys answer
    apart_less h = record {
      left = ascending_rest (here xs) (words (tail_of xs)) first_left;
      right = apart.right;
      so_far = ap (disjoint (words (tail_of xs))) (words_more ys ys_long) ∙ (sym (less_left (here xs) (here ys) (words (tail_of xs)) (words (tail_of ys)) h first_right) ∙ both_first);
    }

    pub apart_more : here ys < here xs → Apart xs (tail_of ys) answer
    apart_more h = record {
      left = apart.left;
      right = ascending_rest (here ys) (words (tail_of ys)) first_right;
      so_far = ap (λ t. disjoint t (words (tail_of ys))) (words_more xs xs_long) ∙ (sym (less_right (here xs) (here ys) (words (tail_of xs)) (words (tail_of ys)) h first_left) ∙ both_first);
    }
