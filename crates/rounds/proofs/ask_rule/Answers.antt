-- The rule waits for its next atom, or takes its head, or is done.
use Rattle.std.proofs.Common.{◌≡◌, suc, ◌+◌, ◌-◌, ◌<◌, sym, ◌∙◌, arith}
use Rattle.marks.specs.Marks.{marked}
use Rattle.waiting.specs.Waiting.{key_of}
use Rattle.waiting.proofs.Counts.{no_more_once_added}
use Rattle.rounds.proofs.Asking.{asked_done, asked_idle, asked_takes, asked_waits}
use Rattle.rounds.specs.Taking.{taken_before}
use Rattle.rounds.proofs.Numbers.{marked_known}
use Rattle.rounds.proofs.Waits.{wait_below}
use Rattle.rounds.proofs.ask_rule.Given as given
use Rattle.rounds.proofs.ask_rule.Goals.{In-Some}
use Rattle.rounds.proofs.ask_rule.Goals as goal

-- the next atom stands at one of the positions of a part, which are few
below : (g : given.Over) (c : In-Some g) → c.in-Some.wait.position < 255
below g c =
    let p = g.S.RuleSource.meaning c.args.set.now.source.now in
    wait_below p (g.S.RuleSource.lawful c.args.set.now.source.now) (taken_before c.args.rounds.now c.args.round) c.args.rule c.position_at-from.result c.in-Some.wait (sym c.in-Some.ensures.value)

pub overflow_add-wait : goal.overflow_add-wait
overflow_add-wait g c = omega (arith, below g (goal.at.overflow_add-wait g c).In-Some)

pub overflow_cast-wait : goal.overflow_cast-wait
overflow_cast-wait g c = omega (arith, below g (goal.at.overflow_cast-wait g c).In-Some)

pub returns-in-Some-clause-under : goal.returns-in-Some-clause-under
returns-in-Some-clause-under g c now some is =
    let p = g.S.RuleSource.meaning c.args.set.now.source.now in
    let set = marked c.args.set.now.marks.now in
    let known = marked_known p c.args.set.now.marks.now c.requires.marks in
    let next : c.args.round ≡ suc (c.args.round - 1) = omega (arith, c.requires.first) in
    let positions = c.args.taking.now.positions in
    let w = c.in-Some.wait in
    rw (c.put_entry.ensures.after)
    (asked_waits p set known (g.S.RuleSource.lawful c.args.set.now.source.now) (c.args.round - 1) c.args.round next (key_of c.args.taking.now.waiting) (key_of c.args.taking.now.coming) positions c.args.rounds.now now c.args.rule is c.requires.some some w
    (rw (sym c.position_at-from.ensures.value) (sym c.in-Some.ensures.value)) (key_of c.add.new.self) c.add.ensures.after c.args.taking.now.sized)

pub returns-then-rest_holds-clause-under : goal.returns-then-rest_holds-clause-under
returns-then-rest_holds-clause-under g c now some is =
    let p = g.S.RuleSource.meaning c.args.set.now.source.now in
    let set = marked c.args.set.now.marks.now in
    let known = marked_known p c.args.set.now.marks.now c.requires.marks in
    let next : c.args.round ≡ suc (c.args.round - 1) = omega (arith, c.requires.first) in (
      rw (c.put_entry-then-rest_holds.ensures.after)
          (asked_takes p set known (g.S.RuleSource.lawful c.args.set.now.source.now) (c.args.round - 1) c.args.round next (key_of c.args.taking.now.waiting) (key_of c.args.taking.now.coming) c.args.taking.now.positions c.args.rounds.now now c.args.rule is c.requires.some some
          (rw (sym c.position_at-from.ensures.value) (sym c.in_default.ensures.value)) c.in-Some-head.head (sym c.in-Some-head.ensures.value) (sym c.number_at.ensures.value ∙ c.if-number_at-ne0.false) (sym c.if-rest_holds.ensures.value) c.requires.last (key_of c.add-then-rest_holds.new.self) c.add-then-rest_holds.ensures.after),
      omega arith,
    )

pub returns-then-rest_holds-clause-fewer : goal.returns-then-rest_holds-clause-fewer
returns-then-rest_holds-clause-fewer g c = no_more_once_added 4098 (key_of c.args.taking.now.coming) (key_of c.add-then-rest_holds.new.self) c.in-Some-head.head c.args.round (c.args.round + 1) c.add-then-rest_holds.ensures.after (λ e. omega (arith, e))

pub returns-then-number_at-ne0-clause-under : goal.returns-then-number_at-ne0-clause-under
returns-then-number_at-ne0-clause-under g c now some is =
    let p = g.S.RuleSource.meaning c.args.set.now.source.now in
    let set = marked c.args.set.now.marks.now in
    let known = marked_known p c.args.set.now.marks.now c.requires.marks in
    let next : c.args.round ≡ suc (c.args.round - 1) = omega (arith, c.requires.first) in (
      asked_done p set known (g.S.RuleSource.lawful c.args.set.now.source.now) (c.args.round - 1) c.args.round next (key_of c.args.taking.now.waiting) (key_of c.args.taking.now.coming) c.args.taking.now.positions c.args.rounds.now now c.args.rule is c.requires.some some
          (rw (sym c.position_at-from.ensures.value) (sym c.in_default.ensures.value)) c.in-Some-head.head (sym c.in-Some-head.ensures.value) (λ zero. c.if-number_at-ne0.true (c.number_at.ensures.value ∙ zero)),
      omega arith,
    )

pub returns-else-rest_holds-clause-under : goal.returns-else-rest_holds-clause-under
returns-else-rest_holds-clause-under g c now some is =
    let p = g.S.RuleSource.meaning c.args.set.now.source.now in
    let set = marked c.args.set.now.marks.now in
    let known = marked_known p c.args.set.now.marks.now c.requires.marks in
    let next : c.args.round ≡ suc (c.args.round - 1) = omega (arith, c.requires.first) in (
      asked_idle p set known (g.S.RuleSource.lawful c.args.set.now.source.now) (c.args.round - 1) c.args.round next (key_of c.args.taking.now.waiting) (key_of c.args.taking.now.coming) c.args.taking.now.positions c.args.rounds.now now c.args.rule is c.requires.some some
          (rw (sym c.position_at-from.ensures.value) (sym c.in_default.ensures.value)) c.in-Some-head.head (sym c.in-Some-head.ensures.value) (sym c.if-rest_holds.ensures.value),
      omega arith,
    )
