-- Which kind of levels each number stands for. Assumes nothing.
use Rattle.std.specs.Prelude.{ℕ, cond, Ok, Err, Result, ◌==◌}
use Rattle.orders.specs.Numbers.{number_kind}
use Rattle.orders.specs.Routes.{route_kind}
use Rattle.orders.specs.declared.kind.LevelKind.{LevelKind}
use Rattle.orders.specs.declared.kind.LevelKind.TheVariants.{Numbers, Routes}
use Rattle.orders.specs.declared.kind.UnknownKind.{UnknownKind}

-- the kind that a number stands for: that of numbers, that of routes, or none
abbrev pub kind_of : ℕ → Result LevelKind UnknownKind
kind_of n = cond (n == number_kind) (Ok Numbers) (cond (n == route_kind) (Ok Routes) (Err (record { 0 = n })))
