-- The answers that find a place are told.
use Rattle.std.proofs.Common.{arith}
use Rattle.boundary.specs.Answers.{maybe_told}
use Rattle.boundary.proofs.Over.{each_over}
use Rattle.boundary.proofs.list.tell_answers.Goals as goal

pub returns : goal.returns
returns c =
    let kept = c.answers.invariant in
    record {
      after = each_over (λ k. maybe_told k.answer) c.args.loans.now c.args.answers.now c.answers.answers c.answers.at (omega (arith, c.min-many.ensures, c.answers-test.false, c.answers.auto.at-end)) kept.told kept.rest;
    }
