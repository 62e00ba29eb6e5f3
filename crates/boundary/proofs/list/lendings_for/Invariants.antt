-- What the loop of `lendings_for` keeps.
use Rattle.std.proofs.Common.{◌≡◌, ◌++◌, drop, map}
use Rattle.boundary.specs.Lendings.{held_in, lendings_of}
use Rattle.boundary.proofs.list.lendings_for.Given as goal

-- the codes that are left, on what is left to lend, give the lendings
abbrev pub invariant-codes : goal.invariant-codes
invariant-codes l = map held_in l.lendings.items ++ lendings_of (drop l.code-index l.list.codes.now) l.rounds l.asks ≡ lendings_of l.list.codes.now l.list.rounds.now l.list.asks.now
