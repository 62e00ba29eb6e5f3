-- What the loop of `tell_asks` keeps.
use Rattle.std.proofs.Common.{◌≡◌, List, length, map, min, take}
use Rattle.std.specs.List.{flat_map}
use Rattle.boundary.specs.Lendings.{ask_told, over}
use Rattle.boundary.specs.declared.list.AskCode.{AskCode}
use Rattle.boundary.proofs.list.tell_asks.Given as goal

-- the questions before this call's are handed back, and the place is the one behind them
abbrev pub invariant-loans : goal.invariant-loans
invariant-loans l =
    let before : List AskCode = flat_map (λ k. map ask_told k.inside.now) (take l.loan-index l.loans) in
    record {
      place : l.from ≡ min (length before) (length l.fn.codes);
      told : l.codes ≡ over before l.fn.codes;
    }
