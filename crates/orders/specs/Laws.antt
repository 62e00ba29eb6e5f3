-- Proofs, no definitions: the laws of both level orders, and of how their levels are stored.
use Rattle.std.specs.Prelude.{◌≡◌, ◌-◌, ◌<◌, true, not, ◌==◌, ◌≢◌, bit_and, refl}
use Rattle.std.proofs.Common.{sym, ap, ◌∙◌, arith}
use Rattle.std.proofs.lemmas.Nat.{and_comm, pow_below, pow_pos}
use Rattle.std.proofs.lemmas.Bool.{ltb-true, lt-ltb, le-ltb, eqb-true, eqb-false, eq-eqb, ne_eqb, and_parts, and_from, and_right, not-true, not_from_true, not_from_false}
use Rattle.levels.specs.Order.{Order}
use Rattle.levels.specs.Stored.{Stored}
use Rattle.orders.specs.Numbers.{less, number, number_rungs, number_width, number_bytes, number_from}
use Rattle.orders.specs.Routes.{contained, inside, route, route_rung, route_rungs, route_width, route_bytes, route_from}
use Rattle.orders.specs.declared.routes.Route.{Route}
use Rattle.orders.specs.Digits.{length-bytes_of, number_in-bytes_of, bytes_of-number_in, contained_trans, ones_contained}

pub number_laws : Order less number_rungs number
number_laws = record {
  irrefl = λ x. le-ltb x.value x.value (omega arith);
  trans = λ x y z p q. lt-ltb x.value z.value (omega (arith, ltb-true x.value y.value p, ltb-true y.value z.value q));
  ascend = λ j k _ h _. lt-ltb j k h;
}

pub number_stored : Stored number_width number_bytes number_from
number_stored = record {
  some = omega arith;
  few = omega arith;
  sized = λ x. length-bytes_of 4 x.value;
  read_written = λ x. ap number (number_in-bytes_of 3 x.value);
  written_read = λ bytes n small. rw n at (bytes_of-number_in bytes small);
}

inside_tells : (x y : Route) → inside x y ≡ true → (bit_and x.repeaters y.repeaters ≡ x.repeaters) × (x.repeaters ≢ y.repeaters)
inside_tells x y p =
    let a = x.repeaters in
    let b = y.repeaters in
    let parts = and_parts (contained a b) (not (a == b)) p in
    (eqb-true (bit_and a b) a parts.0, eqb-false a b (not-true (a == b) parts.1))

inside_from : (x y : Route) → bit_and x.repeaters y.repeaters ≡ x.repeaters → (x.repeaters ≢ y.repeaters) → inside x y ≡ true
inside_from x y within apart =
    let a = x.repeaters in
    let b = y.repeaters in
    and_from (contained a b) (not (a == b)) (eq-eqb (bit_and a b) a within) (not_from_false (a == b) (ne_eqb a b apart))

pub route_laws : Order inside route_rungs route_rung
route_laws = record {
  irrefl = λ x.
      let a = x.repeaters in
      and_right (contained a a) (not (a == a)) (not_from_true (a == a) (eq-eqb a a refl));
  trans = λ x y z p q.
      let a = x.repeaters in
      let b = y.repeaters in
      let c = z.repeaters in
      let first = inside_tells x y p in
      let second = inside_tells y z q in
      inside_from x z (contained_trans a b c first.0 second.0) (λ e. first.1 (sym first.0 ∙ and_comm a b ∙ ap (bit_and b) e ∙ second.0));
  ascend = λ j k least h _.
      let i : j - 1 < k - 1 = omega arith in
      inside_from (route_rung j) (route_rung k) (ones_contained (j - 1) (k - 1) i) (λ e. omega (arith, pow_pos (j - 1), pow_below (j - 1) (k - 1) i));
}

pub route_stored : Stored route_width route_bytes route_from
route_stored = record {
  some = omega arith;
  few = omega arith;
  sized = λ x. length-bytes_of 8 x.repeaters;
  read_written = λ x. ap route (number_in-bytes_of 7 x.repeaters);
  written_read = λ bytes n small. rw n at (bytes_of-number_in bytes small);
}
