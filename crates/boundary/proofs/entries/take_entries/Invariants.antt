-- What the loop of `take_entries` keeps.
use Rattle.std.proofs.Common.{◌≡◌, length, map, take}
use Rattle.boundary.specs.Entries.{entry_for}
use Rattle.boundary.proofs.entries.take_entries.Given as goal

-- the entries before this place are taken over
abbrev pub invariant-entries : goal.invariant-entries
invariant-entries g l = record {
  sized : length l.entries ≡ length l.stored;
  taken : take l.at l.entries ≡ map (entry_for g.L.Crossing.of_number) (take l.at l.stored);
}
