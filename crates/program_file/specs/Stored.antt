-- The atoms of a rule where its record stands: it begins at `start`. Assumes nothing.
use Rattle.std.specs.Prelude.{ℕ, ◌+◌, ◌-◌, ◌*◌, ◌/◌, ◌≤◌, cond, List, length, Some, None, Option, nat_lt}
use Rattle.std.specs.Option.{unwrap_or}
use Rattle.records.specs.Words.{word_at}

-- the i-th number of `many` that stand at a place
abbrev pub number_in : List ℕ → ℕ → ℕ → ℕ → Option ℕ
number_in bytes place many i = cond (nat_lt i many) (word_at bytes (place + 2 * i)) None

abbrev pub stored_head : List ℕ → ℕ → Option ℕ
stored_head bytes start = word_at bytes (start + 4)

-- the positive atoms are as many as the record's second number says
abbrev pub by_positive : List ℕ → ℕ → ℕ → Option ℕ → Option ℕ
by_positive bytes start i None = None
by_positive bytes start i (Some k) = number_in bytes (start + 8) k i

abbrev pub stored_positive : List ℕ → ℕ → ℕ → Option ℕ
stored_positive bytes start i = by_positive bytes start i (word_at bytes (start + 6))

-- the negative atoms follow them, to the end of the record
abbrev pub by_negative : List ℕ → ℕ → ℕ → Option ℕ → Option ℕ → Option ℕ
by_negative bytes start i None count = None
by_negative bytes start i (Some size) None = None
by_negative bytes start i (Some size) (Some k) = number_in bytes (start + (8 + 2 * k)) ((size - 4) / 2 - k) i

abbrev pub stored_negative : List ℕ → ℕ → ℕ → Option ℕ
stored_negative bytes start i = by_negative bytes start i (word_at bytes start) (word_at bytes (start + 6))

-- the length of the record's contents, and its positive count
abbrev pub stored_size : List ℕ → ℕ → ℕ
stored_size bytes start = unwrap_or (word_at bytes start) 0

abbrev pub stored_count : List ℕ → ℕ → ℕ
stored_count bytes start = unwrap_or (word_at bytes (start + 6)) 0

-- the record stands whole, with as many atoms as its positive count says
pub record Whole (bytes : List ℕ) (start : ℕ) : Type 0 where
  pub counted : 2 * stored_count bytes start + 4 ≤ stored_size bytes start
  pub ends : start + (4 + stored_size bytes start) ≤ length bytes
