-- A turn passes one claim, and what is left still gives the answer.
use Rattle.std.proofs.Common.{◌≡◌, ◌+◌, Ok, unwrap_or, sym, ap, ◌∙◌}
use Rattle.std.proofs.Math.Nat.{min-eq_left}
use Rattle.certificate.proofs.Turns.{turn_claim}
use Rattle.certificate.proofs.count_claims.Goals as goal

pub records-preserved : goal.records-preserved
records-preserved g c =
    let is = ap Ok (sym c.in-Some.is) ∙ c.in_ok-size.ensures.value in
    let atom = c.unwrap_or-atom.ensures ∙ ap (λ w. unwrap_or w 0) c.read_word.ensures.value in
    let next = turn_claim c.records.invariant.so_far c.WIDTH.ensures c.in-Some.size is _ atom c.in_ok-check_atom.field-0 c.in_ok-check_atom.ensures.value c.if-count-n.false in
    let whole = (rw c.in-Some.is at c.in_ok-size.ensures.fitting).0 in
    let further : c.after-rest.result.place ≡ c.records.rest.place + (4 + c.in-Some.size) = c.after-rest.ensures.place ∙ ap (λ m. c.records.rest.place + m) (min-eq_left whole) in
    record { so_far = rw (c.after-rest.ensures.bytes, further) next }
