-- What is answered for bytes that are put to the front of an output, and what the output then holds. Assumes nothing.
use Rattle.std.specs.Prelude.{◌≡◌, ℕ, cond, List, length, nat_le, ◌⊎◌}
use Rattle.writer.specs.Writing.{laid_over}

-- the answer, and the output afterwards
pub record Put : Type 0 where
  pub answer : ℕ
  pub out : List ℕ

-- nothing was put
abbrev pub nothing_put : List ℕ → Put
nothing_put out = record { answer = 0; out = out }

-- the bytes are at the front of the output, and what follows them stays; the answer is how many they are
abbrev pub all_put : List ℕ → List ℕ → Put
all_put bytes out = record { answer = length bytes; out = laid_over bytes out }

-- all bytes where they fit, else nothing
abbrev pub put : List ℕ → List ℕ → Put
put bytes out = cond (nat_le (length bytes) (length out)) (all_put bytes out) (nothing_put out)

-- what is left where memory may fail: what was put, or nothing. When memory fails is open
abbrev pub MaybePut : List ℕ → List ℕ → Put → Type 0
MaybePut bytes out left = (left ≡ put bytes out) ⊎ (left ≡ nothing_put out)
