-- Sets of repeaters as levels: one is below another that strictly contains it; stored in 8 bytes. Assumes nothing.
use Rattle.std.specs.Prelude.{ℕ, ◌-◌, ◌^◌, Bool, not, ◌&&◌, List, ◌==◌, bit_and}
use Rattle.orders.specs.LittleEndian.{bytes_of, number_in}
use Rattle.orders.specs.declared.routes.Route.{Route}

-- each bit of a is one of b
abbrev pub contained : ℕ → ℕ → Bool
contained a b = bit_and a b == a

abbrev pub inside : Route → Route → Bool
inside x y = contained x.repeaters y.repeaters && not (x.repeaters == y.repeaters)

abbrev pub route : ℕ → Route
route bits = record { repeaters = bits }

-- rung k is the set of the k - 1 lowest bits
abbrev pub route_rung : ℕ → Route
route_rung k = route (2 ^ (k - 1) - 1)

abbrev pub route_rungs : ℕ
route_rungs = 65

abbrev pub route_kind : ℕ
route_kind = 2

abbrev pub route_width : ℕ
route_width = 8

abbrev pub route_bytes : Route → List ℕ
route_bytes x = bytes_of route_width x.repeaters

abbrev pub route_from : List ℕ → Route
route_from bytes = route (number_in bytes)
