-- A byte that was kept is put back. Assumes nothing.
use Rattle.std.proofs.Common.{◌≡◌, ℕ, ◌-◌, List, arith}
use Rattle.std.proofs.lemmas.Bool.Decides.{nat_tests}
use Rattle.std.proofs.lemmas.Grind.{common_steps}
use Rattle.std.proofs.lemmas.List.{set_past, set-set, set-get_or}
use Rattle.std.proofs.lemmas.Option.{gets, slice_get_cases}
use Rattle.tables.specs.Entries.{entry_of, with_put}
use Rattle.trial.specs.Trial.{put_back}

-- a byte that is put back where it stands changes nothing
pub put_back_unchanged : (marks : List ℕ) (a : ℕ) → put_back marks a (entry_of marks a) ≡ marks
put_back_unchanged marks a = grind (arith, common_steps, nat_tests, gets, slice_get_cases marks (a - 1), set-get_or marks (a - 1) 0)

-- a byte that is put back over another one gives the marks as they were
pub put_back_over : (marks : List ℕ) (a byte : ℕ) → put_back (with_put marks a byte) a (entry_of marks a) ≡ marks
put_back_over marks a byte = grind (arith, common_steps, nat_tests, gets, slice_get_cases marks (a - 1), set-get_or marks (a - 1) 0, set_past marks (a - 1) byte, set-set marks (a - 1) byte)
