-- What is owed of levels that are stored in files. Assumes nothing.
use Rattle.std.specs.Prelude.{◌≡◌, ℕ, ◌<◌, ◌≤◌, List, length}
use Rattle.std.specs.List.{AllByRecursion}

-- a level is written in `width` bytes, and bytes and levels turn into each other without loss
pub record Stored {L : Type 0} (width : ℕ) (encode : L → List ℕ) (decode : List ℕ → L) : Type 0 where
  pub some : 1 ≤ width
  pub few : width ≤ 8
  pub sized : (x : L) → length (encode x) ≡ width
  pub read_written : (x : L) → decode (encode x) ≡ x
  pub written_read : (bytes : List ℕ) → length bytes ≡ width → AllByRecursion (λ b. b < 256) bytes → encode (decode bytes) ≡ bytes
