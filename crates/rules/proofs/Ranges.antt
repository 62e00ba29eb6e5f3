-- The first of the numbers 1 to n that passes, as `find` gives it, and how many pass, as a filter keeps them. Assumes nothing.
use Rattle.std.proofs.Common.{◌≡◌, ℕ, zero, suc, ◌+◌, ◌-◌, Bool, true, false, cond, List, ◌∷◌, filter, length, Some, None, Option, sym, refl, ap, subst, ◌∙◌, arith}
use Rattle.std.specs.List.{find, range_with_len}
use Rattle.std.specs.Option.{option_map}
use Rattle.std.specs.Range.{range_inclusive_start, range_inclusive_end, range_inclusive_exhausted, range_inclusive_len}
use Rattle.std.proofs.iter.runs.Sources.{nat_range_inclusive_steps}
use Rattle.std.proofs.lemmas.Iterator.{YieldsList}
use Rattle.std.proofs.lemmas.Iterator.Consumers.{YieldsList-from_shown}
use Rattle.std.proofs.lemmas.List.FromFn.{length-range_with_len}
use Rattle.rules.specs.Tests.{first_from, lowest, tally_from}

find_first : (test : ℕ → Bool) (from many : ℕ) → find test (range_with_len from many) ≡ first_from test from many
find_first test from zero = refl
find_first test from (suc many) = ap (λ o. cond (test from) (Some from) o) (find_first test (from + 1) many)

-- how many numbers a range from a to b has left, which may be spent
abbrev many : ℕ → ℕ → Bool → ℕ
many = range_inclusive_len (λ x y. y - x)

-- the numbers that it has left
abbrev left : ℕ → ℕ → Bool → List ℕ
left a b spent = range_with_len a (many a b spent)

others : (a b next : ℕ) (spent : Bool) → (spent ≡ false → next ≡ a + 1) → range_with_len (a + 1) (many next b spent) ≡ left next b spent
others a b next true up = refl
others a b next false up = ap (λ i. range_with_len i (many next b false)) (sym (up refl))

one_less : (a b x next last : ℕ) (before after : Bool) → x ≡ a → many next last after + 1 ≡ many a b before → (after ≡ false → next ≡ a + 1) → left a b before ≡ x ∷ left next last after
one_less a b x next last before after first fewer up =
    let more : many a b before ≡ suc (many next last after) = omega (arith, fewer) in
    ap (range_with_len a) more ∙ ap (λ xs. a ∷ xs) (others a last next after up) ∙ ap (λ y. y ∷ left next last after) (sym first)

none_left : (a b : ℕ) (spent : Bool) → many a b spent ≡ 0 → length (left a b spent) ≡ 0
none_left a b spent e = length-range_with_len a (many a b spent) ∙ e

-- a range that is not spent gives the numbers from its start to its end
pub numbers_of : {s : _} (a b n : ℕ) → range_inclusive_start s ≡ a → range_inclusive_end s ≡ b → range_inclusive_exhausted s ≡ false → b + 1 - a ≡ n → YieldsList nat_range_inclusive_steps (λ x. x) s (range_with_len a n)
numbers_of {s} a b n start end fresh size =
    let all : left (range_inclusive_start s) (range_inclusive_end s) (range_inclusive_exhausted s) ≡ range_with_len a n =
    rw (start, end, fresh) (ap (range_with_len a) (omega (arith, size))) in
    subst (YieldsList nat_range_inclusive_steps (λ x. x) s) all
    (YieldsList-from_shown nat_range_inclusive_steps (λ x. x) (λ t. left (range_inclusive_start t) (range_inclusive_end t) (range_inclusive_exhausted t))
    (λ t u h. none_left (range_inclusive_start t) (range_inclusive_end t) (range_inclusive_exhausted t) h.1.0)
    (λ t x u h. one_less (range_inclusive_start t) (range_inclusive_end t) x (range_inclusive_start u) (range_inclusive_end u) (range_inclusive_exhausted t) (range_inclusive_exhausted u) h.1.0 h.1.1 h.1.2)
    s)

-- what `find` gives of the numbers 1 to n
pub lowest_found : (test : ℕ → Bool) (n : ℕ) (answer : Option ℕ) → option_map (λ k. k) answer ≡ find test (range_with_len 1 n) → answer ≡ lowest test n
lowest_found test n None e = e ∙ find_first test 1 n
lowest_found test n (Some k) e = e ∙ find_first test 1 n

-- a filter keeps as many numbers as pass
pub length-filter_numbers : (test : ℕ → Bool) (from many : ℕ) → length (filter test (range_with_len from many)) ≡ tally_from test from many
length-filter_numbers test from zero = refl
length-filter_numbers test from (suc many) =
    let kept = filter test (range_with_len (from + 1) many) in
    let here : length (cond (test from) (from ∷ kept) kept) ≡ cond (test from) 1 0 + length kept = elim (test from) as (λ t. length (cond t (from ∷ kept) kept) ≡ cond t 1 0 + length kept) [ true ↦ omega arith | false ↦ omega arith ] in
    here ∙ ap (λ m. cond (test from) 1 0 + m) (length-filter_numbers test (from + 1) many)
