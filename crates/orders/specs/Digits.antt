-- Proofs, no definitions: numbers and their bytes turn into each other, and containment of bits is an order.
use Rattle.std.specs.Prelude.{◌≡◌, ℕ, zero, suc, ◌+◌, ◌-◌, ◌*◌, ◌/◌, ◌%◌, ◌^◌, ◌<◌, ◌≤◌, List, [], ◌∷◌, length, bit_and, refl}
use Rattle.std.proofs.Common.{ap, ◌∙◌, mod-eq_of_lt, arith}
use Rattle.std.proofs.Math.Arith.{bin_ind}
use Rattle.std.specs.Int.Bits.{and_step}
use Rattle.std.proofs.lemmas.Nat.{and_le_l, and_mask, pow_below}
use Rattle.std.specs.List.{AllByRecursion}
use Rattle.orders.specs.LittleEndian.{bytes_of, number_in}

pub length-bytes_of : (width n : ℕ) → length (bytes_of width n) ≡ width
length-bytes_of zero n = refl
length-bytes_of (suc zero) n = refl
length-bytes_of (suc (suc width)) n = ap suc (length-bytes_of (suc width) (n / 256))

pub number_in-bytes_of : (width n : ℕ) → number_in (bytes_of (suc width) n) ≡ n
number_in-bytes_of zero n = omega arith
number_in-bytes_of (suc width) n = omega (arith, number_in-bytes_of width (n / 256))

pub bytes_of-number_in : (bytes : List ℕ) → AllByRecursion (λ b. b < 256) bytes → bytes_of (length bytes) (number_in bytes) ≡ bytes
bytes_of-number_in [] small = refl
bytes_of-number_in (b ∷ []) small = ap (λ n. n ∷ []) (omega arith)
bytes_of-number_in (b ∷ c ∷ bytes) small =
    let rest = number_in (c ∷ bytes) in
    let below : b < 256 = small.0 in
    let low : (b + rest * 256) % 256 ≡ b = omega arith in
    let high : (b + rest * 256) / 256 ≡ rest = omega arith in
    rw (low, high) (ap (λ bs. b ∷ bs) (bytes_of-number_in (c ∷ bytes) small.1))

-- where a is contained in b, so are its halves and its lowest bit
halves : (a b : ℕ) → bit_and a b ≡ a → (bit_and (a / 2) (b / 2) ≡ a / 2) × (a % 2 ≤ b % 2)
halves a b h =
    let step = and_step a b in
    let most = and_le_l (a / 2) (b / 2) in
    (omega arith, omega arith)

pub contained_trans : (a b c : ℕ) → bit_and a b ≡ a → bit_and b c ≡ b → bit_and a c ≡ a
contained_trans =
    bin_ind (λ a. (b c : ℕ) → bit_and a b ≡ a → bit_and b c ≡ b → bit_and a c ≡ a) (λ b c _ _. refl)
    (λ a half b c p q.
    let first = halves a b p in
    let second = halves b c q in
    omega (arith, and_step a c, half (b / 2) (c / 2) first.0 second.0, first.1, second.1))

pub ones_contained : (i j : ℕ) → i < j → bit_and (2 ^ i - 1) (2 ^ j - 1) ≡ 2 ^ i - 1
ones_contained i j h =
    let small : 2 ^ i - 1 < 2 ^ j = omega (arith, pow_below i j h) in
    and_mask (2 ^ i - 1) j ∙ mod-eq_of_lt small
