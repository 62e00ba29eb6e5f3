-- What judge answers for the pair, and at which levels it is tried. Assumes nothing.
use Rattle.std.specs.Prelude.{ℕ, ◌-◌, Bool, true, false, cond, ◌&&◌, [], ◌∷◌, Some, Ok, Err, Result, nat_le}
use Rattle.refusal.specs.declared.Refusal.{Refusal}
use Rattle.verdict.specs.Judge.{judged}
use Rattle.verdict.specs.declared.Verdict.{Verdict}
use Rattle.verdict.specs.declared.Verdict.TheVariants.{Broken, Unlevelled, Ungrounded, Accepted}
use Rattle.orders.specs.Numbers.{less, number, number_rungs}
use Rattle.orders.specs.Routes.{inside, route_rung, route_rungs}
use Rattle.orders.specs.declared.kind.LevelKind.{LevelKind}
use Rattle.orders.specs.declared.kind.LevelKind.TheVariants.{Numbers, Routes}
use Rattle.checklist.specs.Pair.{pair}

-- judge answers that an atom is ungrounded
abbrev pub is_ungrounded : Result Verdict Refusal → Bool
is_ungrounded (Ok (Broken k)) = false
is_ungrounded (Ok (Unlevelled a)) = false
is_ungrounded (Ok (Ungrounded a)) = true
is_ungrounded (Ok (Accepted m)) = false
is_ungrounded (Err e) = false

module _ {L : Type 0} (below : L → L → Bool) where
  -- what judge answers for the pair, with both atoms marked, 1 at the level x and 2 at y
  abbrev pub judged_pair : L → L → Result Verdict Refusal
  judged_pair x y = judged below pair (1 ∷ 1 ∷ []) (Some x ∷ Some y ∷ [])

  -- judge stops the pair with these levels
  abbrev pub stopped : L → L → Bool
  stopped x y = is_ungrounded (judged_pair x y)

  module _ (count : ℕ) (rung : ℕ → L) where
    -- the order has a rung k
    abbrev pub has_rung : ℕ → Bool
    has_rung k = nat_le 1 k && nat_le k count

    -- judge stops the pair with the rungs j and k for levels, where the order has both
    abbrev pub stopped_at_rungs : ℕ → ℕ → Bool
    stopped_at_rungs j k = cond (has_rung j && has_rung k) (stopped (rung j) (rung k)) true

    -- both at the top rung; one at the rung before it and one at it; one at it and one at the lowest
    abbrev pub stopped_at_top : Bool
    stopped_at_top = stopped_at_rungs count count && (stopped_at_rungs (count - 1) count && stopped_at_rungs count 1)

-- the number 0 is a level and no rung, so it is tried besides, with the greatest number
abbrev pub stopped_with_zero : Bool
stopped_with_zero = stopped less (number 0) (number 4294967295) && stopped less (number 4294967295) (number 0)

-- judge stops the pair wherever it is tried in the levels of a kind
abbrev pub stopped_in : LevelKind → Bool
stopped_in Numbers = stopped_at_top less number_rungs number && stopped_with_zero
stopped_in Routes = stopped_at_top inside route_rungs route_rung
