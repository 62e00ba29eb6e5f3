-- The answer and the output are as defined, and the round trips follow.
use Rattle.std.proofs.Common.{◌≡◌, ◌≤◌, length, IfOk, Ok, Err, sym, ap, ◌∙◌, subst, arith}
use Rattle.std.proofs.lemmas.Result.{err_from_is_err_and}
use Rattle.writer.specs.Writing.{room_checked, write_answer, output_after}
use Rattle.writer.proofs.Trips.{stands, too_short, length_answered, file_laid, written_reads_back, read_writes_back}
use Rattle.writer.proofs.write.Goals as goal

pub returns-in_err-size : goal.returns-in_err-size
returns-in_err-size g c =
    let p = g.S.RuleSource.meaning c.args.source.now in
    let lawful = g.S.RuleSource.lawful c.args.source.now in
    let out = c.args.out.now in
    let r = err_from_is_err_and c.from_residual.result c.from_residual.ensures.1 in
    let e = c.in_err-size.field-0.0 in
    let refused : Err e ≡ write_answer p (length out) = ap (room_checked (length out)) c.in_err-size.ensures.value in
    let value : c.from_residual.result ≡ write_answer p (length out) = r.1 ∙ ap Err r.2 ∙ refused in
    let after = stands p lawful out e refused in
    record {
      value = value;
      after = after;
      fits = subst (λ answer. IfOk answer (λ size. size ≤ length out)) (sym (r.1 ∙ ap Err r.2)) tt;
      reads_back = written_reads_back p lawful out c.from_residual.result out value after;
      same_bytes = read_writes_back p lawful out c.from_residual.result out value after;
    }

pub returns-then-size-out : goal.returns-then-size-out
returns-then-size-out g c =
    let p = g.S.RuleSource.meaning c.args.source.now in
    let lawful = g.S.RuleSource.lawful c.args.source.now in
    let out = c.args.out.now in
    let size = c.in_ok-size.size in
    let value : Err c.refuse.result ≡ write_answer p (length out) = ap Err c.refuse.ensures.value ∙ too_short p lawful out size c.in_ok-size.ensures.value (omega (arith, c.if-size-out.true)) in
    let after = stands p lawful out c.refuse.result value in
    record {
      value = value;
      after = after;
      fits = tt;
      reads_back = written_reads_back p lawful out (Err c.refuse.result) out value after;
      same_bytes = read_writes_back p lawful out (Err c.refuse.result) out value after;
    }

pub returns : goal.returns
returns g c =
    let p = g.S.RuleSource.meaning c.args.source.now in
    let lawful = g.S.RuleSource.lawful c.args.source.now in
    let out = c.args.out.now in
    let size = c.in_ok-size.size in
    let value = length_answered p lawful out size c.in_ok-size.ensures.value (omega (arith, c.if-size-out.false)) in
    let after : c.write_file.new.out ≡ output_after p out = c.write_file.ensures.after ∙ file_laid p lawful out size c.in_ok-size.ensures.value (omega (arith, c.if-size-out.false)) in
    record {
      value = value;
      after = after;
      fits = omega (arith, c.if-size-out.false);
      reads_back = written_reads_back p lawful out (Ok size) c.write_file.new.out value after;
      same_bytes = read_writes_back p lawful out (Ok size) c.write_file.new.out value after;
    }
