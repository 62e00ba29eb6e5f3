-- Each way out of the loop gives the answer, and a turn leaves it as it was.
use Rattle.std.proofs.Common.{◌≡◌, ◌+◌, ◌-◌, length, None, Ok, Err, sym, ap, subst, ◌∙◌, arith}
use Rattle.std.proofs.Math.Nat.{min-eq_left}
use Rattle.std.proofs.lemmas.List.{length-drop}
use Rattle.std.proofs.lemmas.Result.{err_from_is_err_and}
use Rattle.program.specs.Reading.{Fitting}
use Rattle.program.proofs.Rules.{turn_end_refused, turn_fault, turn_rule}
use Rattle.program.proofs.reader.read_rules.Goals as goal

pub returns-in_err-check_atoms : goal.returns-in_err-check_atoms
returns-in_err-check_atoms c =
    let p = err_from_is_err_and c.from_residual-in_err-check_atoms.result c.from_residual-in_err-check_atoms.ensures.1 in
    record {
      value = p.1 ∙ ap Err p.2
          ∙ turn_fault c.records.invariant.so_far c.in-Some.rule (ap Ok (sym c.in-Some.is) ∙ c.in_ok-rule.ensures.value) c.if-count-ge-MAX_RULES.false
          c.in_err-check_atoms.field-0.0 c.in_err-check_atoms.ensures.value;
    }

pub records-preserved : goal.records-preserved
records-preserved c =
    let next = turn_rule c.records.invariant.so_far c.in-Some.rule (ap Ok (sym c.in-Some.is) ∙ c.in_ok-rule.ensures.value) c.if-count-ge-MAX_RULES.false c.in_ok-check_atoms.field-0 c.in_ok-check_atoms.ensures.value in
    let fits = subst (λ o. Fitting c.records.rest.bytes.now (Ok o)) c.in-Some.is c.in_ok-rule.ensures.fitting in
    let long : length c.after-rest.result.bytes.now ≡ length c.records.rest.bytes.now - (4 + c.in-Some.rule.size) = ap length c.after-rest.ensures.bytes ∙ length-drop _ _ in
    let further : c.after-rest.result.place ≡ c.records.rest.place + (4 + c.in-Some.rule.size) = c.after-rest.ensures.place ∙ ap (λ m. c.records.rest.place + m) (min-eq_left fits.0) in
    record {
      inside = omega (arith, fits.0, long, further, c.records.invariant.inside);
      so_far = rw (c.from.ensures, c.after-rest.ensures.bytes, further) next;
    }

pub returns-in_err-check_end : goal.returns-in_err-check_end
returns-in_err-check_end c =
    let p = err_from_is_err_and c.from_residual-in_err-check_end.result c.from_residual-in_err-check_end.ensures.1 in
    let is : c.in_ok-rule.field-0 ≡ None = cc in
    record {
      value = p.1 ∙ ap Err p.2
          ∙ turn_end_refused c.records.invariant.so_far c.in_err-check_end.field-0.0 (ap Ok (sym is) ∙ c.in_ok-rule.ensures.value) c.in_err-check_end.ensures.value;
    }
