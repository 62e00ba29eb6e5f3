-- What the loop of `doubt_left` keeps.
use Rattle.std.proofs.Common.{◌≡◌, ◌==◌}
use Rattle.marks.specs.Marks.{byte_of, sifted}
use Rattle.tables.proofs.Entries.{changed}
use Rattle.rounds.specs.Taking.{number_in}
use Rattle.settlement.proofs.doubt_left.Given as goal

-- the atoms before this one are sifted, and the others are as they were
abbrev pub invariant-atoms : goal.invariant-atoms
invariant-atoms l = l.marks ≡ changed (λ a. sifted (number_in l.rounds a == 0) (byte_of l.fn.marks a)) (byte_of l.fn.marks) l.n l.atom
