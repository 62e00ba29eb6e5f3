-- One record more is written.
use Rattle.std.proofs.Common.{◌+◌, ◌<◌, ◌≤◌, length, ap, ◌∙◌, arith, rules}
use Rattle.program.specs.Encoding.{rule_bytes}
use Rattle.writer.specs.Parts.{rule_or_empty}
use Rattle.writer.specs.Writing.{laid_over}
use Rattle.writer.proofs.Bytes.{room_at, room_there, laid_there}
use Rattle.writer.proofs.Files.{front, front_more, front_all, front_length, file_bound, rule_room, room_after_head, over_head}
use Rattle.writer.proofs.write_rules.Goals as goal

pub slice_bounds-write_rule-count : goal.slice_bounds-write_rule-count
slice_bounds-write_rule-count g c =
    let p = g.S.RuleSource.meaning c.args.source.now in
    let k = c.loop-rule.rule in
    let inside : k ≤ length p.rules = omega (arith, c.loop-rule-test.true, c.rules-rule-end.ensures.value) in
    let fits : length (front p k) + length (rule_bytes (rule_or_empty p k)) ≤ length c.write_head-at.new.out = omega (arith, rule_room p k c.loop-rule.invariant.0 inside, room_after_head p c.args.out.now c.write_head-at.new.out c.write_head-at.ensures.after c.requires.room) in
    omega (arith, room_at (front p k) (rule_bytes (rule_or_empty p k)) c.write_head-at.new.out c.loop-rule.out c.loop-rule.at c.loop-rule.invariant.1.0 c.loop-rule.invariant.1.1 fits)

pub slice_bounds-write_rule-start : goal.slice_bounds-write_rule-start
slice_bounds-write_rule-start g c =
    let p = g.S.RuleSource.meaning c.args.source.now in
    let k = c.loop-rule.rule in
    let inside : k ≤ length p.rules = omega (arith, c.loop-rule-test.true, c.rules-rule-end.ensures.value) in
    let fits : length (front p k) + length (rule_bytes (rule_or_empty p k)) ≤ length c.write_head-at.new.out = omega (arith, rule_room p k c.loop-rule.invariant.0 inside, room_after_head p c.args.out.now c.write_head-at.new.out c.write_head-at.ensures.after c.requires.room) in
    let there = room_at (front p k) (rule_bytes (rule_or_empty p k)) c.write_head-at.new.out c.loop-rule.out c.loop-rule.at c.loop-rule.invariant.1.0 c.loop-rule.invariant.1.1 fits in
    search rules

pub write_rule-at-requires : goal.write_rule-at-requires
write_rule-at-requires g c =
    let p = g.S.RuleSource.meaning c.args.source.now in
    let k = c.loop-rule.rule in
    let inside : k ≤ length p.rules = omega (arith, c.loop-rule-test.true, c.rules-rule-end.ensures.value) in
    let fits : length (front p k) + length (rule_bytes (rule_or_empty p k)) ≤ length c.write_head-at.new.out = omega (arith, rule_room p k c.loop-rule.invariant.0 inside, room_after_head p c.args.out.now c.write_head-at.new.out c.write_head-at.ensures.after c.requires.room) in
    record { room = room_there (front p k) (rule_bytes (rule_or_empty p k)) c.write_head-at.new.out c.loop-rule.out c.loop-rule.at c.loop-rule.invariant.1.0 c.loop-rule.invariant.1.1 fits }

pub overflow_add-at : goal.overflow_add-at
overflow_add-at g c =
    let p = g.S.RuleSource.meaning c.args.source.now in
    let k = c.loop-rule.rule in
    let inside : k ≤ length p.rules = omega (arith, c.loop-rule-test.true, c.rules-rule-end.ensures.value) in
    omega (arith, c.loop-rule.invariant.1.0, c.write_rule-at.ensures.value, rule_room p k c.loop-rule.invariant.0 inside, file_bound p (g.S.RuleSource.lawful c.args.source.now))

pub loop-rule-preserved : goal.loop-rule-preserved
loop-rule-preserved g c =
    let p = g.S.RuleSource.meaning c.args.source.now in
    let k = c.loop-rule.rule in
    let some : 1 ≤ k = c.loop-rule.invariant.0 in
    let inside : k ≤ length p.rules = omega (arith, c.loop-rule-test.true, c.rules-rule-end.ensures.value) in
    let record_of = rule_bytes (rule_or_empty p k) in
    let fits : length (front p k) + length record_of ≤ length c.write_head-at.new.out = omega (arith, rule_room p k some inside, room_after_head p c.args.out.now c.write_head-at.new.out c.write_head-at.ensures.after c.requires.room) in (
      omega (arith, some),
      (
        omega (arith, c.loop-rule.invariant.1.0, c.write_rule-at.ensures.value, front_length p k some inside),
        laid_there (front p k) record_of c.write_head-at.new.out c.loop-rule.out c.loop-rule.at c.loop-rule.invariant.1.0 c.loop-rule.invariant.1.1 fits c.write_rule-at.new.out c.write_rule-at.ensures.after
            ∙ ap (λ t. laid_over t c.write_head-at.new.out) (front_more p k some inside),
      ),
    )

pub returns : goal.returns
returns g c =
    let p = g.S.RuleSource.meaning c.args.source.now in
    let past : length p.rules < c.loop-rule.rule = omega (arith, c.loop-rule-test.false, c.rules-rule-end.ensures.value) in
    let whole = front_all p c.loop-rule.rule past in
    record {
      value = c.loop-rule.invariant.1.0 ∙ ap length whole;
      after = c.loop-rule.invariant.1.1 ∙ ap (λ t. laid_over t c.write_head-at.new.out) whole ∙ over_head p c.args.out.now c.write_head-at.new.out c.write_head-at.ensures.after c.requires.room;
    }

pub returns-2 : goal.returns-2
returns-2 g c =
    let p = g.S.RuleSource.meaning c.args.source.now in
    let k = c.loop-rule.rule in
    let some : 1 ≤ k = c.loop-rule.invariant.0 in
    let inside : k ≤ length p.rules = omega (arith, c.loop-rule-test.true, c.rules-rule-end.ensures.value) in
    let last : c.rules-rule-end.result ≤ k = search rules in
    let past : length p.rules < k + 1 = omega (arith, last, c.rules-rule-end.ensures.value) in
    let record_of = rule_bytes (rule_or_empty p k) in
    let fits : length (front p k) + length record_of ≤ length c.write_head-at.new.out = omega (arith, rule_room p k some inside, room_after_head p c.args.out.now c.write_head-at.new.out c.write_head-at.ensures.after c.requires.room) in
    let whole = front_more p k some inside ∙ front_all p (k + 1) past in
    record {
      value = omega (arith, c.loop-rule.invariant.1.0, c.write_rule-at.ensures.value, front_length p k some inside, ap length (front_all p (k + 1) past));
      after = laid_there (front p k) record_of c.write_head-at.new.out c.loop-rule.out c.loop-rule.at c.loop-rule.invariant.1.0 c.loop-rule.invariant.1.1 fits c.write_rule-at.new.out c.write_rule-at.ensures.after
          ∙ ap (λ t. laid_over t c.write_head-at.new.out) whole
          ∙ over_head p c.args.out.now c.write_head-at.new.out c.write_head-at.ensures.after c.requires.room;
    }
