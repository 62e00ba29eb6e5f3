-- What is known where checks are passed. Assumes nothing.
use Rattle.std.proofs.Common.{◌≡◌, ℕ, ◌≤◌, true, false, ◌&&◌, eqb, leb, is_ok, Ok, Err, Result, refl}
use Rattle.std.proofs.lemmas.Bool.{and_parts, both_ways, eqb-true, leb-true}
use Rattle.refusal.specs.Results.{err_not_ok, passed}
use Rattle.refusal.specs.Tables.{atom_checked, both_checked, length_checked}
use Rattle.refusal.specs.declared.Refusal.{Refusal}

pub ok_passed : (check : Result (Unit {0}) Refusal) → is_ok check ≡ true → check ≡ Ok tt
ok_passed (Ok u) ok = refl
ok_passed (Err e) ok = absurd (both_ways false refl ok)

pub both_passed : {u : Unit {0}} (first second : Result (Unit {0}) Refusal) → both_checked first second ≡ Ok u → (first ≡ Ok tt) × (second ≡ Ok tt)
both_passed (Ok v) second h = (refl, h)
both_passed (Err e) second h = absurd (err_not_ok h)

pub length_passed : {u : Unit {0}} (n size : ℕ) → length_checked n size ≡ Ok u → size ≡ n
length_passed n size h = eqb-true size n (passed (eqb size n) err_not_ok h).0

pub atom_passed : {u : Unit {0}} (n a : ℕ) → atom_checked n a ≡ Ok u → (1 ≤ a) × (a ≤ n)
atom_passed n a h =
    let parts = and_parts (leb 1 a) (leb a n) (passed (leb 1 a && leb a n) err_not_ok h).0 in
    (leb-true 1 a parts.0, leb-true a n parts.1)
