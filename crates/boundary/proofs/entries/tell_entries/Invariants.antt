-- What the loop of `tell_entries` keeps.
use Rattle.std.proofs.Common.{◌≡◌, length, map, take}
use Rattle.boundary.specs.Entries.{stored_for}
use Rattle.boundary.proofs.entries.tell_entries.Given as goal

-- the entries before this place are told
abbrev pub invariant-entries : goal.invariant-entries
invariant-entries g l = record {
  sized : length l.entries ≡ length l.stored;
  told : take l.at l.stored ≡ map (stored_for g.L.Crossing.number_of) (take l.at l.entries);
}
