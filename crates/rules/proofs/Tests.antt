-- Lemmas on tests over lists and over the numbers 1 to n. Assumes nothing.
use Rattle.std.proofs.Common.{◌≡◌, ℕ, zero, suc, ◌+◌, ◌-◌, ◌<◌, ◌≤◌, Bool, true, false, cond, leb, not, ◌&&◌, ◌||◌, List, [], ◌∷◌, map, length, drop, is_some, Some, None, filter, Option, unwrap_or, sym, refl, ap, ◌∙◌, subst, ⊎_elim, arith}
use Rattle.std.specs.List.{slice_get, AllByRecursion}
use Rattle.std.proofs.lemmas.List.{drop_more}
use Rattle.std.proofs.lemmas.Option.{slice_get-get_or, slice_get_past}
use Rattle.std.proofs.lemmas.Bool.{cases_lt, both_ways, and_parts, and_from, or_cases, or_from, or_left, or_parts, or_right, cases_Bool, cases_eq, leb-true, le-leb, cond-true, cond-false, cond_both, false_from_ne_true, true_from_ne_false}
use Rattle.rules.specs.Program.{within}
use Rattle.rules.specs.Tests.{all, any, first_from, lowest, tally_from, tally}

pub some_not_none : {X : Type 0} {x : X} → Some x ≡ None → ⊥
some_not_none e = both_ways true (ap is_some e) refl

pub some_same : {X : Type 0} {x y : X} → Some x ≡ Some y → x ≡ y
some_same {x = x} e = ap (λ o. unwrap_or o x) e

module _ {X : Type 0} where
  -- where each element that passes the one test passes the other
  pub any_weaker : (test other : X → Bool) (xs : List X) → AllByRecursion (λ x. test x ≡ true → other x ≡ true) xs → any test xs ≡ true → any other xs ≡ true
  any_weaker test other [] h e = e
  any_weaker test other (x ∷ xs) h e =
      ⊎_elim
      (λ t. or_left (other x) (any other xs) (h.0 t))
      (λ rest. or_right (other x) (any other xs) (any_weaker test other xs h.1 rest))
      (or_cases (test x) (any test xs) e)

  -- where no element passes, each fails
  pub each_from_none : (test : X → Bool) (xs : List X) → any test xs ≡ false → AllByRecursion (λ x. test x ≡ false) xs
  each_from_none test [] e = tt
  each_from_none test (x ∷ xs) e = let parts = or_parts (test x) (any test xs) e in (parts.0, each_from_none test xs parts.1)

module _ {X : Type 0} (P Q : X → Type 0) where
  pub all_both : (xs : List X) → AllByRecursion P xs → AllByRecursion Q xs → AllByRecursion (λ x. P x × Q x) xs
  all_both [] h k = tt
  all_both (x ∷ xs) h k = ((h.0, k.0), all_both xs h.1 k.1)

module _ {X : Type 0} (test : X → Bool) where
  pub each_from_all : (xs : List X) → all test xs ≡ true → AllByRecursion (λ x. test x ≡ true) xs
  each_from_all [] e = tt
  each_from_all (x ∷ xs) e = let parts = and_parts (test x) (all test xs) e in (parts.0, each_from_all xs parts.1)

  pub all_from_each : (xs : List X) → AllByRecursion (λ x. test x ≡ true) xs → all test xs ≡ true
  all_from_each [] h = refl
  all_from_each (x ∷ xs) h = and_from (test x) (all test xs) h.0 (all_from_each xs h.1)

  pub any_from_none : (xs : List X) → AllByRecursion (λ x. test x ≡ false) xs → any test xs ≡ false
  any_from_none [] h = refl
  any_from_none (x ∷ xs) h = or_from (test x) (any test xs) h.0 (any_from_none xs h.1)

  pub all_not : (xs : List X) → all (λ x. not (test x)) xs ≡ not (any test xs)
  all_not [] = refl
  all_not (x ∷ xs) = elim (test x) as (λ b. (not b && all (λ y. not (test y)) xs) ≡ not (b || any test xs)) [ true ↦ refl | false ↦ all_not xs ]

  -- what each passing element gives, where some element passes
  pub given_by_any : {G : Type 0} (xs : List X) → any test xs ≡ true → AllByRecursion (λ x. test x ≡ true → G) xs → G
  given_by_any [] e h = absurd (both_ways false refl e)
  given_by_any (x ∷ xs) e h = ⊎_elim h.0 (λ rest. given_by_any xs rest h.1) (or_cases (test x) (any test xs) e)

  module _ (P : X → Type 0) where
    pub all_kept_by_from : (xs : List X) → AllByRecursion (λ x. test x ≡ true → P x) xs → AllByRecursion P (filter test xs)
    all_kept_by_from [] h = tt
    all_kept_by_from (x ∷ xs) h = cond_both (test x) (x ∷ filter test xs) (filter test xs) (AllByRecursion P) (λ e. (h.0 e, all_kept_by_from xs h.1)) (λ e. all_kept_by_from xs h.1)

    pub each_from_kept_by : (xs : List X) → AllByRecursion P (filter test xs) → AllByRecursion (λ x. test x ≡ true → P x) xs
    each_from_kept_by [] h = tt
    each_from_kept_by (x ∷ xs) h =
        ⊎_elim
        (λ e. let k : AllByRecursion P (x ∷ filter test xs) = subst (AllByRecursion P) (cond-true (test x) (x ∷ filter test xs) (filter test xs) e) h in ((λ _. k.0), each_from_kept_by xs k.1))
        (λ e. ((λ t. absurd (both_ways (test x) e t)), each_from_kept_by xs (subst (AllByRecursion P) (cond-false (test x) (x ∷ filter test xs) (filter test xs) e) h)))
        (cases_Bool (test x))

pub each_from_map : {X Y : Type 0} (P : Y → Type 0) (f : X → Y) (xs : List X) → AllByRecursion P (map f xs) → AllByRecursion (λ x. P (f x)) xs
each_from_map P f [] h = tt
each_from_map P f (x ∷ xs) h = (h.0, each_from_map P f xs h.1)

-- what a walk by position finds in the list
module _ {X : Type 0} where
  pub within_from_nth : (xs : List X) (i : ℕ) (x : X) → slice_get xs i ≡ Some x → i < length xs
  within_from_nth xs i x e = ⊎_elim (λ l. l) (λ past. absurd (some_not_none (sym e ∙ slice_get_past xs i past))) (cases_lt i (length xs))

  pub past_from_nth : (xs : List X) (i : ℕ) → slice_get xs i ≡ None → length xs ≤ i
  past_from_nth [] i e = omega arith
  past_from_nth (x ∷ xs) zero e = absurd (some_not_none e)
  past_from_nth (x ∷ xs) (suc i) e = omega (arith, past_from_nth xs i e)

  pub drop_from_nth : (xs : List X) (i : ℕ) (x : X) → slice_get xs i ≡ Some x → drop i xs ≡ x ∷ drop (i + 1) xs
  drop_from_nth xs i x e =
      let within : i < length xs = within_from_nth xs i x e in
      drop_more xs i x within ∙ ap (λ y. y ∷ drop (i + 1) xs) (some_same (sym (slice_get-get_or xs i x within) ∙ e))

module _ {X : Type 0} (test : X → Bool) (xs : List X) (i : ℕ) where
  pub all_more : (x : X) → slice_get xs i ≡ Some x → test x ≡ true → all test (drop i xs) ≡ all test (drop (i + 1) xs)
  all_more x e t = ap (all test) (drop_from_nth xs i x e) ∙ ap (λ b. b && all test (drop (i + 1) xs)) t

  pub any_more : (x : X) → slice_get xs i ≡ Some x → test x ≡ false → any test (drop i xs) ≡ any test (drop (i + 1) xs)
  any_more x e t = ap (any test) (drop_from_nth xs i x e) ∙ ap (λ b. b || any test (drop (i + 1) xs)) t

  pub any_passes : (x : X) → slice_get xs i ≡ Some x → test x ≡ true → any test (drop i xs) ≡ true
  any_passes x e t = ap (any test) (drop_from_nth xs i x e) ∙ ap (λ b. b || any test (drop (i + 1) xs)) t

module _ (test : ℕ → Bool) where
  first_from_none : (from many : ℕ) → first_from test from many ≡ None → (k : ℕ) → from ≤ k → k < from + many → test k ≡ false
  first_from_none from zero e k low high = absurd (omega arith)
  first_from_none from (suc many) e k low high =
      ⊎_elim
      (λ t. absurd (some_not_none (sym (cond-true (test from) (Some from) (first_from test (from + 1) many) t) ∙ e)))
      (λ t. ⊎_elim
      (λ same. ap test (sym same) ∙ t)
      (λ apart. first_from_none (from + 1) many (sym (cond-false (test from) (Some from) (first_from test (from + 1) many) t) ∙ e) k (omega arith) (omega arith))
      (cases_eq from k))
      (cases_Bool (test from))

  first_none : (from many : ℕ) → ((k : ℕ) → from ≤ k → k < from + many → test k ≡ false) → first_from test from many ≡ None
  first_none from zero none = refl
  first_none from (suc many) none =
      let here : test from ≡ false = none from (omega arith) (omega arith) in
      rw here (first_none (from + 1) many (λ k low high. none k (omega arith) (omega arith)))

  pub lowest_none : (n : ℕ) → ((k : ℕ) → 1 ≤ k → k ≤ n → test k ≡ false) → lowest test n ≡ None
  lowest_none n none = first_none 1 n (λ k low high. none k low (omega arith))

  -- where none of 1 to n passes
  pub none_from_lowest : (n : ℕ) → lowest test n ≡ None → (k : ℕ) → 1 ≤ k → k ≤ n → test k ≡ false
  none_from_lowest n e k low high = first_from_none 1 n e k low (omega arith)

-- the lowest of `from` to n that passes
abbrev pub lowest_from : (ℕ → Bool) → ℕ → ℕ → Option ℕ
lowest_from test n from = first_from test from (n + 1 - from)

module _ (test : ℕ → Bool) (n from : ℕ) where
  pub lowest_from_here : from ≤ n → test from ≡ true → lowest_from test n from ≡ Some from
  lowest_from_here within t = let more : n + 1 - from ≡ suc (n - from) = omega arith in rw (more, t)

  pub lowest_from_more : from ≤ n → test from ≡ false → lowest_from test n from ≡ lowest_from test n (from + 1)
  lowest_from_more within t = let more : n + 1 - from ≡ suc (n + 1 - (from + 1)) = omega arith in rw (more, t)

  pub lowest_from_last : from ≡ n → test from ≡ false → lowest_from test n from ≡ None
  lowest_from_last last t = let more : n + 1 - from ≡ 1 = omega arith in rw (more, t)

module _ (small large : ℕ → Bool) (grows : (k : ℕ) → small k ≡ true → large k ≡ true) where
  one_le : (k : ℕ) → cond (small k) 1 0 ≤ cond (large k) 1 0
  one_le k = ⊎_elim
      (λ t. rw (cond-true {A = ℕ} (large k) 1 0 (grows k t), cond-true {A = ℕ} (small k) 1 0 t) (omega arith))
      (λ f. rw (cond-false {A = ℕ} (small k) 1 0 f) (omega arith))
      (cases_Bool (small k))

  tally_from_le : (from many : ℕ) → tally_from small from many ≤ tally_from large from many
  tally_from_le from zero = omega arith
  tally_from_le from (suc many) = omega (arith, one_le from, tally_from_le (from + 1) many)

  tally_from_less : (from many b : ℕ) → from ≤ b → b < from + many → small b ≡ false → large b ≡ true → tally_from small from many < tally_from large from many
  tally_from_less from zero b low high out into = absurd (omega arith)
  tally_from_less from (suc many) b low high out into =
      ⊎_elim
      (λ same. let o : cond (small from) 1 0 ≡ 0 = cond-false {A = ℕ} (small from) 1 0 (ap small same ∙ out) in
      let i : cond (large from) 1 0 ≡ 1 = cond-true {A = ℕ} (large from) 1 0 (ap large same ∙ into) in
      omega (arith, tally_from_le (from + 1) many))
      (λ apart. omega (arith, one_le from, tally_from_less (from + 1) many b (omega arith) (omega arith) out into))
      (cases_eq from b)

  -- what passes the one test passes the other, and the atom b the other alone
  pub tally_less : (n b : ℕ) → 1 ≤ b → b ≤ n → small b ≡ false → large b ≡ true → tally small n < tally large n
  tally_less n b low high out into = tally_from_less 1 n b low (omega arith) out into

module _ {X : Type 0} (small large : X → Bool) (grows : (x : X) → small x ≡ true → large x ≡ true) where
  pub all_grows : (xs : List X) → all small xs ≡ true → all large xs ≡ true
  all_grows [] e = refl
  all_grows (x ∷ xs) e = let parts = and_parts (small x) (all small xs) e in and_from (large x) (all large xs) (grows x parts.0) (all_grows xs parts.1)

  pub any_grows : (xs : List X) → any small xs ≡ true → any large xs ≡ true
  any_grows [] e = e
  any_grows (x ∷ xs) e = ⊎_elim (λ h. or_left (large x) (any large xs) (grows x h)) (λ h. or_right (large x) (any large xs) (any_grows xs h)) (or_cases (small x) (any small xs) e)

above_is_some : (o : Option ℕ) → 1 ≤ unwrap_or o 0 → is_some o ≡ true
above_is_some None some = absurd (omega arith)
above_is_some (Some k) some = refl

-- the number that is found, 0 where none is
module _ (test : ℕ → Bool) where
  first_passes : (from many : ℕ) → 1 ≤ unwrap_or (first_from test from many) 0 → test (unwrap_or (first_from test from many) 0) ≡ true
  first_passes from zero = λ some. absurd (omega arith)
  first_passes from (suc many) = cond_both (test from) (Some from) (first_from test (from + 1) many) (λ o. 1 ≤ unwrap_or o 0 → test (unwrap_or o 0) ≡ true) (λ t some. t) (λ f. first_passes (from + 1) many)

  first_bounded : (from many : ℕ) → 1 ≤ from → unwrap_or (first_from test from many) 0 < from + many
  first_bounded from zero low = omega arith
  first_bounded from (suc many) low = cond_both (test from) (Some from) (first_from test (from + 1) many) (λ o. unwrap_or o 0 < from + suc many) (λ t. omega arith) (λ f. omega (arith, first_bounded (from + 1) many (omega arith)))

  first_least : (from many k : ℕ) → 1 ≤ from → from ≤ k → k < from + many → test k ≡ true → (1 ≤ unwrap_or (first_from test from many) 0) × (unwrap_or (first_from test from many) 0 ≤ k)
  first_least from zero k low above below t = absurd (omega arith)
  first_least from (suc many) k low above below t =
      cond_both (test from) (Some from) (first_from test (from + 1) many) (λ o. (1 ≤ unwrap_or o 0) × (unwrap_or o 0 ≤ k))
      (λ here. (low, above))
      (λ f. ⊎_elim (λ same. absurd (both_ways (test k) (ap test (sym same) ∙ f) t)) (λ apart. first_least (from + 1) many k (omega arith) (omega arith) (omega arith) t) (cases_eq from k))

  first_some : (from many : ℕ) → 1 ≤ from → is_some (first_from test from many) ≡ true → 1 ≤ unwrap_or (first_from test from many) 0
  first_some from zero low = λ e. absurd (both_ways false refl e)
  first_some from (suc many) low = cond_both (test from) (Some from) (first_from test (from + 1) many) (λ o. is_some o ≡ true → 1 ≤ unwrap_or o 0) (λ t e. low) (λ f. first_some (from + 1) many (omega arith))

  module _ (n : ℕ) where
    pub lowest_passes : 1 ≤ unwrap_or (lowest test n) 0 → test (unwrap_or (lowest test n) 0) ≡ true
    lowest_passes = first_passes 1 n

    pub lowest_bounded : unwrap_or (lowest test n) 0 ≤ n
    lowest_bounded = omega (arith, first_bounded 1 n (omega arith))

    pub lowest_least : (k : ℕ) → 1 ≤ k → k ≤ n → test k ≡ true → (1 ≤ unwrap_or (lowest test n) 0) × (unwrap_or (lowest test n) 0 ≤ k)
    lowest_least k low high t = first_least 1 n k (omega arith) low (omega arith) t

    -- whether some number from 1 to n passes
    pub lowest_some : (k : ℕ) → 1 ≤ k → k ≤ n → test k ≡ true → is_some (lowest test n) ≡ true
    lowest_some k low high t = above_is_some (lowest test n) (lowest_least k low high t).0

    pub some_from_lowest : is_some (lowest test n) ≡ true → (k : ℕ) × (1 ≤ k) × (k ≤ n) × (test k ≡ true)
    some_from_lowest e = let some = first_some 1 n (omega arith) e in (unwrap_or (lowest test n) 0, some, lowest_bounded, lowest_passes some)

    pub none_unless_some : is_some (lowest test n) ≡ false → (k : ℕ) → 1 ≤ k → k ≤ n → test k ≡ false
    none_unless_some e k low high = false_from_ne_true (test k) (λ t. both_ways (is_some (lowest test n)) e (lowest_some k low high t))

-- how many of 1 to n pass, by those up to k
module _ (test : ℕ → Bool) where
  tally_from_upto : (from many k : ℕ) → ((j : ℕ) → k < j → j < from + many → test j ≡ false) → tally_from test from many ≤ k + 1 - from
  tally_from_upto from zero k none = omega arith
  tally_from_upto from (suc many) k none =
      let rest = tally_from_upto (from + 1) many k (λ j above below. none j above (omega arith)) in
      ⊎_elim
      (λ past. let out : cond (test from) 1 0 ≡ 0 = cond-false {A = ℕ} (test from) 1 0 (none from past (omega arith)) in omega (arith, rest))
      (λ within. let one : cond (test from) 1 0 ≤ 1 = cond_both (test from) 1 0 (λ c. c ≤ 1) (λ t. omega arith) (λ f. omega arith) in omega (arith, rest))
      (cases_lt k from)

  tally_from_reaches : (from many k : ℕ) → k < from + many → ((j : ℕ) → from ≤ j → j ≤ k → test j ≡ true) → k + 1 - from ≤ tally_from test from many
  tally_from_reaches from zero k below each = omega arith
  tally_from_reaches from (suc many) k below each =
      ⊎_elim
      (λ past. omega arith)
      (λ within. let into : cond (test from) 1 0 ≡ 1 = cond-true {A = ℕ} (test from) 1 0 (each from (omega arith) within) in
      omega (arith, tally_from_reaches (from + 1) many k (omega arith) (λ j above upto. each j (omega arith) upto)))
      (cases_lt k from)

  module _ (n : ℕ) where
    pub tally_upto : (k : ℕ) → ((j : ℕ) → k < j → j ≤ n → test j ≡ false) → tally test n ≤ k
    tally_upto k none = omega (arith, tally_from_upto 1 n k (λ j above below. none j above (omega arith)))

    pub tally_reaches : (k : ℕ) → k ≤ n → ((j : ℕ) → 1 ≤ j → j ≤ k → test j ≡ true) → k ≤ tally test n
    tally_reaches k below each = omega (arith, tally_from_reaches 1 n k (omega arith) each)

module _ (test : ℕ → Bool) (n : ℕ) where
  -- where none passes
  pub tally_none : tally test n ≡ 0 → (k : ℕ) → 1 ≤ k → k ≤ n → test k ≡ false
  tally_none e k low high = false_from_ne_true (test k) (λ t. absurd (omega (arith, e, tally_less (λ j. false) test (λ j h. absurd (both_ways false refl h)) n k low high refl t)))

  -- where each passes
  pub tally_full : n ≤ tally test n → (k : ℕ) → 1 ≤ k → k ≤ n → test k ≡ true
  tally_full e k low high =
      let most : tally (λ j. true) n ≤ n = tally_upto (λ j. true) n n (λ j above below. absurd (omega arith)) in
      true_from_ne_false (test k) (λ f. absurd (omega (arith, e, most, tally_less test (λ j. true) (λ j h. refl) n k low high f refl)))

  -- where some passes
  pub tally_some : 1 ≤ tally test n → (k : ℕ) × (1 ≤ k) × (k ≤ n) × (test k ≡ true)
  tally_some some =
      ⊎_elim
      (λ e. some_from_lowest test n e)
      (λ e. absurd (omega (arith, some, tally_upto test n 0 (λ j above below. none_unless_some test n e j (omega arith) below))))
      (cases_Bool (is_some (lowest test n)))

-- a number from 1 to n
module _ (n a : ℕ) where
  pub within_parts : within n a ≡ true → (1 ≤ a) × (a ≤ n)
  within_parts h = let parts = and_parts (leb 1 a) (leb a n) h in (leb-true 1 a parts.0, leb-true a n parts.1)

  pub within_from : 1 ≤ a → a ≤ n → within n a ≡ true
  within_from low high = and_from (leb 1 a) (leb a n) (le-leb 1 a low) (le-leb a n high)
