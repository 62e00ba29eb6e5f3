-- One call's questions more are handed back.
use Rattle.std.proofs.Common.{◌≡◌, ◌+◌, ◌-◌, List, length, map, min, ap, ◌∙◌, sym}
use Rattle.std.proofs.lemmas.List.{length-map}
use Rattle.session.specs.declared.Loan.{Loan}
use Rattle.boundary.specs.Lendings.{ask_told}
use Rattle.boundary.specs.declared.list.AskCode.{AskCode}
use Rattle.boundary.proofs.Over.{next_place, next_told}
use Rattle.boundary.proofs.list.tell_asks.Goals as goal

pub loans-preserved : goal.loans-preserved
loans-preserved c =
    let loans = c.args.loans.now in
    let old = c.args.codes.now in
    let kept = c.loans.invariant in
    let told_of : Loan → List AskCode = λ k. map ask_told k.inside.now in
    let many : c.put_asks-from.result ≡ c.loans.from + min (length (told_of c.loan-item.result)) (length c.loans.codes - c.loans.from) =
    c.put_asks-from.ensures.value ∙ ap (λ n. c.loans.from + min n (length c.loans.codes - c.loans.from)) (sym (length-map c.loan-item.result.inside.now ask_told)) in
    record {
      place = next_place told_of loans c.loan-item.result c.loans.loan-index c.loan-item.is c.loans-test.true old c.loans.codes c.loans.from kept.place kept.told c.put_asks-from.result many;
      told = next_told told_of loans c.loan-item.result c.loans.loan-index c.loan-item.is c.loans-test.true old c.loans.codes c.loans.from kept.place kept.told c.put_asks-from.new.codes c.put_asks-from.ensures.after;
    }
