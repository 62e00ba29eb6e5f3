-- How the entries of a level table cross to C, and which number stands for a level. Assumes nothing.
use Rattle.std.specs.Prelude.{ℕ, true, false, cond, Some, None, Option, ◌%◌}
use Rattle.orders.specs.declared.numbers.Number.{Number}
use Rattle.orders.specs.declared.routes.Route.{Route}
use Rattle.boundary.specs.declared.entries.Stored.{Stored}

-- the number level that a number stands for: its lowest 32 bits
abbrev pub number_for : ℕ → Number
number_for k = record { value = k % 4294967296 }

-- the number that stands for a number level
abbrev pub number_told : Number → ℕ
number_told x = x.value

-- the route that a number stands for
abbrev pub route_for : ℕ → Route
route_for k = record { repeaters = k }

-- the number that stands for a route
abbrev pub route_told : Route → ℕ
route_told x = x.repeaters

-- the entry that crosses
abbrev pub entry_for : {L : Type 0} → (ℕ → L) → Stored → Option L
entry_for level s = cond s.present (Some (level s.level)) None

-- how an entry crosses
abbrev pub stored_for : {L : Type 0} → (L → ℕ) → Option L → Stored
stored_for number (Some x) = record { present = true; level = number x }
stored_for number None = record { present = false; level = 0 }
