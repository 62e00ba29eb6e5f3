-- One positive atom more looked at.
use Rattle.std.proofs.Common.{sym, ◌∙◌, arith}
use Rattle.rules.specs.Questions.{positive_part}
use Rattle.rounds.specs.Taking.{taken_before}
use Rattle.rounds.proofs.Waits.{first_wait_here, first_wait_more, first_wait_past, position_below, positive_at_nth}
use Rattle.rounds.proofs.next_wait.Goals as goal

pub returns-then-not-is_taken_before : goal.returns-then-not-is_taken_before
returns-then-not-is_taken_before g c =
    let p = g.S.RuleSource.meaning c.args.source.now in
    let part = positive_part p c.args.rule in
    let here = sym (positive_at_nth p c.args.rule c.positive.position) ∙ sym c.in-Some.ensures.value in
    record { value = sym (first_wait_here (taken_before c.args.rounds.now c.args.round) part c.positive.position c.in-Some.atom here (sym c.if-not-is_taken_before.ensures.value)) ∙ c.positive.invariant }

pub overflow_add-position : goal.overflow_add-position
overflow_add-position g c =
    let p = g.S.RuleSource.meaning c.args.source.now in
    omega (arith, position_below p (g.S.RuleSource.lawful c.args.source.now) c.args.rule c.positive.position c.in-Some.atom (sym c.in-Some.ensures.value))

pub positive-smaller : goal.positive-smaller
positive-smaller g c =
    let p = g.S.RuleSource.meaning c.args.source.now in
    omega (arith, position_below p (g.S.RuleSource.lawful c.args.source.now) c.args.rule c.positive.position c.in-Some.atom (sym c.in-Some.ensures.value))

pub positive-preserved : goal.positive-preserved
positive-preserved g c =
    let p = g.S.RuleSource.meaning c.args.source.now in
    let part = positive_part p c.args.rule in
    let here = sym (positive_at_nth p c.args.rule c.positive.position) ∙ sym c.in-Some.ensures.value in
    sym (first_wait_more (taken_before c.args.rounds.now c.args.round) part c.positive.position c.in-Some.atom here (sym c.if-not-is_taken_before.ensures.value)) ∙ c.positive.invariant

pub returns : goal.returns
returns g c =
    let p = g.S.RuleSource.meaning c.args.source.now in
    let none = sym (positive_at_nth p c.args.rule c.positive.position) ∙ sym c.in_default.ensures.value in
    record { value = sym (first_wait_past (taken_before c.args.rounds.now c.args.round) (positive_part p c.args.rule) c.positive.position none) ∙ c.positive.invariant }
