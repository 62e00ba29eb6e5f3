-- The loans are those for the calls.
use Rattle.std.proofs.Common.{◌≡◌, drop, length, map, ap, ◌∙◌, arith}
use Rattle.std.proofs.lemmas.List.{take_at}
use Rattle.session.specs.Run.{held}
use Rattle.boundary.specs.Lendings.{held_in}
use Rattle.boundary.specs.Lists.{crossed}
use Rattle.boundary.proofs.Lists.{after_calls}
use Rattle.boundary.proofs.list.run_in.Goals as goal

pub returns-clause-after : goal.returns-clause-after
returns-clause-after g c =
    let level = g.L.Level in
    let done = c.run_lent.ensures in
    let told = c.tell_loans.ensures in
    let left = c.run_lent.new.loans in
    let many : length left ≡ c.in_ok-loans.loans.len = omega (arith, c.deref_mut-2.ensures.len, c.run_lent.auto.loans) in
    let kept : c.deref-2.result.now ≡ left = c.deref-2.ensures.value ∙ take_at left (drop (length left) c.in_ok-loans.loans.items) c.in_ok-loans.loans.len many in
    after_calls level.below level.RUNGS level.rung g.L.Crossing.of_number g.L.Crossing.number_of (g.S.RuleSource.meaning c.args.source.now) _ _ (crossed c.args.marks.now c.args.stored.now c.args.list.now) _ c.deref.result.now c.in_ok-lendings.lendings.items c.deref_mut-2.result.now c.deref-2.result.now
    (c.deref.ensures.value ∙ c.in_ok-calls.ensures.value) c.in_ok-lendings.ensures.value
    (ap (map held) c.deref_mut-2.ensures.value ∙ c.in_ok-loans.ensures.value ∙ ap (map held_in) c.deref_mut.ensures.value)
    (ap (map held) kept ∙ done.loans) done.marks done.stored told.rounds told.asks told.answers
