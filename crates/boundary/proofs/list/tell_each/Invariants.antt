-- What the loop of `tell_each` keeps.
use Rattle.std.proofs.Common.{◌≡◌, length, map, take}
use Rattle.boundary.specs.Lendings.{ask_told}
use Rattle.boundary.proofs.list.tell_each.Given as goal

-- the questions before this place are told
abbrev pub invariant-asks : goal.invariant-asks
invariant-asks l = record {
  sized : length l.asks ≡ length l.codes;
  told : take l.at l.codes ≡ map ask_told (take l.at l.asks);
}
