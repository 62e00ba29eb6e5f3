-- Tests over lists and over the numbers 1 to n. Assumes nothing.
use Rattle.std.specs.Prelude.{ℕ, zero, suc, ◌+◌, Bool, cond, List, Some, None, Option, nat_eq}
use Rattle.std.specs.List.{list_all, list_any}

-- each element passes
abbrev pub all : {X : Type 0} → (X → Bool) → List X → Bool
all test xs = list_all test xs

-- some element passes
abbrev pub any : {X : Type 0} → (X → Bool) → List X → Bool
any test xs = list_any test xs

abbrev pub member : ℕ → List ℕ → Bool
member a = any (nat_eq a)

-- the first of the `many` numbers from `from` on that passes
abbrev pub first_from : (ℕ → Bool) → ℕ → ℕ → Option ℕ
first_from test from zero = None
first_from test from (suc many) = cond (test from) (Some from) (first_from test (from + 1) many)

-- the lowest of 1 to n that passes
abbrev pub lowest : (ℕ → Bool) → ℕ → Option ℕ
lowest test n = first_from test 1 n

-- how many of the `many` numbers from `from` on pass
abbrev pub tally_from : (ℕ → Bool) → ℕ → ℕ → ℕ
tally_from test from zero = 0
tally_from test from (suc many) = cond (test from) 1 0 + tally_from test (from + 1) many

-- how many of 1 to n pass
abbrev pub tally : (ℕ → Bool) → ℕ → ℕ
tally test n = tally_from test 1 n
