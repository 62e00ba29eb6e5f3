-- What the loop of `tell_rounds` keeps.
use Rattle.std.proofs.Common.{◌≡◌, ℕ, List, length, min, take}
use Rattle.std.specs.List.{flat_map}
use Rattle.boundary.specs.Lendings.{over}
use Rattle.boundary.proofs.list.tell_rounds.Given as goal

-- the round tables before this one are handed back, and the place is the one behind them
abbrev pub invariant-loans : goal.invariant-loans
invariant-loans l =
    let before : List ℕ = flat_map (λ k. k.rounds.now) (take l.loan-index l.loans) in
    record {
      place : l.from ≡ min (length before) (length l.fn.rounds);
      told : l.rounds ≡ over before l.fn.rounds;
    }
