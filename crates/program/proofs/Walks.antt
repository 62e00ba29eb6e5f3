-- Tests of the numbers in a part. Assumes nothing.
use Rattle.std.proofs.Common.{◌≡◌, ℕ, zero, suc, ◌<◌, ◌≤◌, Bool, true, false, cond, ◌&&◌, leb, ltb, List, [], ◌∷◌, get_or, Some, Option, sym, refl, ap, ◌∙◌, ⊎_elim, arith}
use Rattle.std.proofs.Math.Bool.{and-true}
use Rattle.std.proofs.lemmas.Bool.{and_left, and_right, both_ways, cases_Bool, le-leb, le-ltb, leb-true, lt-ltb}
use Rattle.refusal.specs.declared.Reason.{Reason}
use Rattle.refusal.specs.declared.Reason.TheVariants.{Atom, Order}
use Rattle.records.specs.Words.{word_of}
use Rattle.rules.specs.Program.{ascends_above, ascending, within}
use Rattle.rules.specs.Tests.{all}

-- the first number that the bytes hold
abbrev pub here : List ℕ → ℕ
here xs = word_of (get_or xs 0 0) (get_or xs 1 0)

-- what is left of a part ascends above `last`, and neither it nor `last` is above n
abbrev pub rises : ℕ → ℕ → List ℕ → Bool
rises n last left = ascends_above last left && (leb last n && all (within n) left)

module _ (n : ℕ) where
  pub rises_whole : (part : List ℕ) → rises n 0 part ≡ (ascending part && all (within n) part)
  rises_whole [] = ap (λ b. b && true) (le-leb 0 n (omega arith))
  rises_whole (zero ∷ rest) = sym (and_right (ascends_above 0 rest) false refl)
  rises_whole (suc a ∷ rest) =
      ap (λ b. (b && ascends_above (suc a) rest) && (leb 0 n && all (within n) (suc a ∷ rest))) (lt-ltb 0 (suc a) (omega arith))
      ∙ ap (λ b. ascends_above (suc a) rest && (b && all (within n) (suc a ∷ rest))) (le-leb 0 n (omega arith))

  module _ (last a : ℕ) (rest : List ℕ) where
    pub rises_fails : a ≤ last → rises n last (a ∷ rest) ≡ false
    rises_fails low = ap (λ b. (b && ascends_above a rest) && (leb last n && all (within n) (a ∷ rest))) (le-ltb last a low)

    pub rises_on : last < a → rises n last (a ∷ rest) ≡ rises n a rest
    rises_on high =
        ap (λ b. (b && ascends_above a rest) && (leb last n && all (within n) (a ∷ rest))) (lt-ltb last a high)
        ∙ ap (λ b. ascends_above a rest && (leb last n && ((b && leb a n) && all (within n) rest))) (le-leb 1 a (omega arith))
        ∙ ap (λ b. ascends_above a rest && b) (⊎_elim
        (λ (known : leb a n ≡ true). ap (λ b. b && (leb a n && all (within n) rest)) (le-leb last n (omega (arith, leb-true a n known))))
        (λ (past : leb a n ≡ false). and_right (leb last n) (leb a n && all (within n) rest) (and_left (leb a n) (all (within n) rest) past) ∙ sym (and_left (leb a n) (all (within n) rest) past))
        (cases_Bool (leb a n)))

  pub rises_ends : (last : ℕ) → rises n last [] ≡ leb last n
  rises_ends last = and-true (leb last n)

-- h: the head is known; for each part whether it ascends, and whether its atoms are known; X: what is wrong otherwise
pub fit : (h asc_left in_left asc_right in_right : Bool) (X : Option Reason) → h && ((asc_left && in_left) && (asc_right && in_right)) ≡ true
    → cond (h && (in_left && in_right)) (cond (asc_left && asc_right) X (Some Order)) (Some Atom) ≡ X
fit true true true true true X is = refl
fit false a b c d X is = absurd (both_ways false refl is)
fit true false b c d X is = absurd (both_ways false refl is)
fit true true false c d X is = absurd (both_ways false refl is)
fit true true true false d X is = absurd (both_ways false refl is)
fit true true true true false X is = absurd (both_ways false refl is)

pub unfit : (h asc_left in_left asc_right in_right : Bool) (X : Option Reason) → h && ((asc_left && in_left) && (asc_right && in_right)) ≡ false
    → cond (h && (in_left && in_right)) (cond (asc_left && asc_right) X (Some Order)) (Some Atom) ≡ Some (cond (h && (in_left && in_right)) Order Atom)
unfit false a b c d X is = refl
unfit true a false c d X is = refl
unfit true a true c false X is = refl
unfit true false true c true X is = refl
unfit true true true false true X is = refl
unfit true true true true true X is = absurd (both_ways true is refl)
