-- Proofs: how many numbers bytes hold. Assumes nothing.
use Rattle.std.specs.Prelude.{◌≡◌, ℕ, ◌-◌, ◌*◌, List, [], ◌∷◌, length}
use Rattle.std.proofs.Common.{arith}
use Rattle.records.specs.Words.{words}

pub length-words : (k : ℕ) (xs : List ℕ) → length xs ≡ 2 * k → length (words xs) ≡ k
length-words k [] h = omega arith
length-words k (a ∷ []) h = absurd (omega arith)
length-words k (a ∷ (b ∷ rest)) h =
    let less : length rest ≡ 2 * (k - 1) = omega arith in
    let more = length-words (k - 1) rest less in
    omega (arith, more, h)
