-- Proofs: what is known of a test that was passed. Assumes nothing.
use Rattle.std.specs.Prelude.{◌≡◌, Bool, true, false, cond, Some, None, Ok, Err, ◌≢◌, refl}

pub err_not_ok : {X E : Type 0} {e : E} {x : X} → Err e ≢ Ok x
err_not_ok is = cc

pub some_not_none : {X : Type 0} {x : X} → Some x ≢ None
some_not_none is = cc

-- the test holds, where the other way cannot give the answer
pub passed : {X : Type 0} (b : Bool) {x y z : X} → (y ≢ z) → cond b x y ≡ z → (b ≡ true) × (x ≡ z)
passed true not is = (refl, is)
passed false not is = absurd (not is)
