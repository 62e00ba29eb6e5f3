-- One round table more is handed back.
use Rattle.boundary.proofs.Over.{next_place, next_told}
use Rattle.boundary.proofs.list.tell_rounds.Goals as goal

pub loans-preserved : goal.loans-preserved
loans-preserved c =
    let loans = c.args.loans.now in
    let old = c.args.rounds.now in
    let kept = c.loans.invariant in
    record {
      place = next_place (λ k. k.rounds.now) loans c.loan-item.result c.loans.loan-index c.loan-item.is c.loans-test.true old c.loans.rounds c.loans.from kept.place kept.told c.put_rounds-from.result c.put_rounds-from.ensures.value;
      told = next_told (λ k. k.rounds.now) loans c.loan-item.result c.loans.loan-index c.loan-item.is c.loans-test.true old c.loans.rounds c.loans.from kept.place kept.told c.put_rounds-from.new.rounds c.put_rounds-from.ensures.after;
    }
