-- What `words` gives step by step. Assumes nothing.
use Rattle.std.proofs.Common.{◌≡◌, ℕ, zero, suc, ◌+◌, ◌-◌, ◌*◌, ◌<◌, ◌≤◌, cond, ltb, List, [], ◌∷◌, length, get_or, take, drop, None, sym, refl, ap, ◌∙◌, ⊎_elim, arith, length-take}
use Rattle.std.proofs.lemmas.List.{take_rest, drop-take, drop_all}
use Rattle.std.proofs.lemmas.Bool.{cond-true, cond-false, lt-ltb, le-ltb, cases_lt}
use Rattle.std.specs.List.{slice_get}
use Rattle.records.specs.Words.{word_of, words, first_word}

-- what is left after two bytes, as a slice pattern has it
abbrev pub tail_of : List ℕ → List ℕ
tail_of xs = take (length xs - 2) (drop 2 xs)

pub words_more : (xs : List ℕ) → 2 ≤ length xs → words xs ≡ word_of (get_or xs 0 0) (get_or xs 1 0) ∷ words (tail_of xs)
words_more [] h = absurd (omega arith)
words_more (a ∷ []) h = absurd (omega arith)
words_more (a ∷ (b ∷ rest)) h = ap (λ t. word_of a b ∷ words t) (sym (take_rest (a ∷ (b ∷ rest)) 2))

pub words_none : (xs : List ℕ) → length xs < 2 → words xs ≡ []
words_none [] h = refl
words_none (a ∷ []) h = refl
words_none (a ∷ (b ∷ rest)) h = absurd (omega arith)

-- the i-th number stands at byte 2 i
pub nth_words : (xs : List ℕ) (i : ℕ) → slice_get (words xs) i ≡ first_word (drop (2 * i) xs)
nth_words [] i = sym (ap first_word (drop_all (2 * i) [] (omega arith)))
nth_words (a ∷ []) zero = refl
nth_words (a ∷ []) (suc i) = sym (ap first_word (drop_all (2 * suc i) (a ∷ []) (omega arith)))
nth_words (a ∷ (b ∷ rest)) zero = refl
nth_words (a ∷ (b ∷ rest)) (suc i) =
    let two : 2 * suc i ≡ suc (suc (2 * i)) = omega arith in
    nth_words rest i ∙ ap (λ m. first_word (drop m (a ∷ (b ∷ rest)))) (sym two)

pub first_word-take : (m : ℕ) (xs : List ℕ) → 2 ≤ m → first_word (take m xs) ≡ first_word xs
first_word-take zero xs h = absurd (omega arith)
first_word-take (suc zero) xs h = absurd (omega arith)
first_word-take (suc (suc m)) [] h = refl
first_word-take (suc (suc m)) (a ∷ []) h = refl
first_word-take (suc (suc m)) (a ∷ (b ∷ rest)) h = refl

-- the i-th of the first m numbers
pub nth_part : (m : ℕ) (xs : List ℕ) (i : ℕ) → slice_get (words (take (2 * m) xs)) i ≡ cond (ltb i m) (first_word (drop (2 * i) xs)) None
nth_part m xs i =
    nth_words (take (2 * m) xs) i ∙ ⊎_elim
    (λ (less : i < m).
    let split : 2 * m ≡ 2 * i + (2 * m - 2 * i) = omega arith in
    ap (λ n. first_word (drop (2 * i) (take n xs))) split
    ∙ ap first_word (drop-take (2 * i) (2 * m - 2 * i) xs)
    ∙ first_word-take (2 * m - 2 * i) (drop (2 * i) xs) (omega arith)
    ∙ sym (cond-true (ltb i m) (first_word (drop (2 * i) xs)) None (lt-ltb i m less)))
    (λ (past : m ≤ i).
    ap first_word (drop_all (2 * i) (take (2 * m) xs) (simp length-take (omega arith)))
    ∙ sym (cond-false (ltb i m) (first_word (drop (2 * i) xs)) None (le-ltb i m past)))
    (cases_lt i m)
