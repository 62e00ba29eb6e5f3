-- Values over the front of a list, in parts. Assumes nothing.
use borrow.Rule.Slice.PartMut.{put_mid}
use Rattle.std.proofs.Common.{◌≡◌, ℕ, zero, suc, ◌+◌, ◌-◌, ◌<◌, min, List, [], ◌∷◌, ◌++◌, get_or, length, map, take, drop, refl, sym, ap, ◌∙◌, arith}
use Rattle.std.specs.List.{flat_map}
use Rattle.std.proofs.Math.Seq.{take-suc}
use Rattle.std.proofs.lemmas.Grind.{flat_map-append}
use Rattle.std.proofs.lemmas.List.{append-nil, length-append, length-drop, length-map, take-append-drop, take-map}
use Rattle.boundary.specs.Lendings.{over}

module _ {X : Type 0} where
  over_nothing : (xs : List X) → over xs [] ≡ []
  over_nothing [] = refl
  over_nothing (x ∷ xs) = refl

  length_over : (xs old : List X) → length (over xs old) ≡ length old
  length_over [] old = refl
  length_over (x ∷ xs) [] = refl
  length_over (x ∷ xs) (y ∷ old) = ap suc (length_over xs old)

  -- the values that find a place, and what follows them
  over_front : (xs old : List X) (n : ℕ) → n ≡ min (length xs) (length old) → take n xs ++ drop n old ≡ over xs old
  over_front [] old zero is = refl
  over_front [] old (suc n) is = absurd (omega (arith, is))
  over_front (x ∷ xs) [] zero is = refl
  over_front (x ∷ xs) [] (suc n) is = absurd (omega (arith, is))
  over_front (x ∷ xs) (y ∷ old) zero is = absurd (omega (arith, is))
  over_front (x ∷ xs) (y ∷ old) (suc n) is = ap (λ ys. x ∷ ys) (over_front xs old n (omega (arith, is)))

  -- more values, from the place behind the first ones on
  over_more : (xs ys old : List X) (n : ℕ) → n ≡ min (length xs) (length old) → take n (over xs old) ++ over ys (drop n (over xs old)) ≡ over (xs ++ ys) old
  over_more [] ys old zero is = refl
  over_more [] ys old (suc n) is = absurd (omega (arith, is))
  over_more (x ∷ xs) ys [] zero is = over_nothing ys
  over_more (x ∷ xs) ys [] (suc n) is = absurd (omega (arith, is))
  over_more (x ∷ xs) ys (y ∷ old) zero is = absurd (omega (arith, is))
  over_more (x ∷ xs) ys (y ∷ old) (suc n) is = ap (λ zs. x ∷ zs) (over_more xs ys old n (omega (arith, is)))

  -- as many values as find a place, put at one
  pub put_over : (xs old part : List X) (at many : ℕ) → many ≡ min (length xs) (length old - at) → part ≡ take many xs → put_mid at (at + many - at) old part ≡ take at old ++ over xs (drop at old)
  put_over xs old part at many is part_is =
      let just : at + many - at ≡ many = omega arith in
      ap (λ k. take at old ++ (part ++ drop k (drop at old))) just
      ∙ ap (λ ys. take at old ++ (ys ++ drop many (drop at old))) part_is
      ∙ ap (λ ys. take at old ++ ys) (over_front xs (drop at old) many (is ∙ ap (min (length xs)) (sym (length-drop at old))))

  -- a value for each of the first ones, and what follows them as it was
  pub each_over : {K : Type 0} (f : K → X) (ks : List K) (old now : List X) (n : ℕ) → n ≡ min (length ks) (length old) → take n now ≡ map f (take n ks) → drop n now ≡ drop n old → now ≡ over (map f ks) old
  each_over f ks old now n is told rest =
      sym (take-append-drop n now)
      ∙ ap (λ ys. ys ++ drop n now) (told ∙ sym (take-map f n ks))
      ∙ ap (λ ys. take n (map f ks) ++ ys) rest
      ∙ over_front (map f ks) old n (is ∙ ap (λ m. min m (length old)) (sym (length-map ks f)))

  -- the values of one element more, from the place behind those before it on
  module _ {K : Type 0} (part : K → List X) (ks : List K) (k : K) (i : ℕ) (is : k ≡ get_or ks i k) (within : i < length ks) where
    more : flat_map part (take (i + 1) ks) ≡ flat_map part (take i ks) ++ part k
    more =
        let next : i + 1 ≡ suc i = omega arith in
        ap (λ n. flat_map part (take n ks)) next
        ∙ ap (flat_map part) (take-suc ks i k within)
        ∙ flat_map-append part (take i ks) (get_or ks i k ∷ [])
        ∙ ap (λ ys. flat_map part (take i ks) ++ ys) (append-nil (part (get_or ks i k)))
        ∙ ap (λ y. flat_map part (take i ks) ++ part y) (sym is)

    module _ (old now : List X) (at : ℕ) (place : at ≡ min (length (flat_map part (take i ks))) (length old)) (told : now ≡ over (flat_map part (take i ks)) old) where
      pub next_place : (next : ℕ) → next ≡ at + min (length (part k)) (length now - at) → next ≡ min (length (flat_map part (take (i + 1) ks))) (length old)
      next_place next next_is =
          let long : length now ≡ length old = ap length told ∙ length_over (flat_map part (take i ks)) old in
          let longer : length (flat_map part (take (i + 1) ks)) ≡ length (flat_map part (take i ks)) + length (part k) = ap length more ∙ length-append (flat_map part (take i ks)) (part k) in
          omega (arith, place, next_is, long, longer)

      pub next_told : (after : List X) → after ≡ take at now ++ over (part k) (drop at now) → after ≡ over (flat_map part (take (i + 1) ks)) old
      next_told after after_is =
          after_is
          ∙ ap (λ t. take at t ++ over (part k) (drop at t)) told
          ∙ over_more (flat_map part (take i ks)) (part k) old at place
          ∙ ap (λ xs. over xs old) (sym more)
