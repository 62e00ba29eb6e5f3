-- One rule more is asked, until none waits for the atom.
use Rattle.std.proofs.Common.{◌-◌, sym, subst, arith}
use Rattle.std.proofs.Math.Path.{fun_ext}
use Rattle.marks.specs.Marks.{marked}
use Rattle.waiting.specs.Waiting.{Held, key_of}
use Rattle.waiting.proofs.Counts.{fewer_once_taken}
use Rattle.rounds.specs.Progress.{Progress}
use Rattle.rounds.specs.Taking.{number_in}
use Rattle.rounds.proofs.Progress.{rule_taken, rules_asked}
use Rattle.rounds.proofs.ask_rules.Given as given
use Rattle.rounds.proofs.ask_rules.Goals.{In-Some}
use Rattle.rounds.proofs.ask_rules.Goals as goal

-- a rule that waited for the atom
held : (g : given.Over) (c : In-Some g) → Held c.rules.taking.waiting c.in-Some.rule c.args.atom
held g c = c.take.ensures.held c.in-Some.rule c.in-Some.is

taken : (g : given.Over) (c : In-Some g) → Progress (g.S.RuleSource.meaning c.args.set.now.source.now) (marked c.args.set.now.marks.now) (c.args.round - 1) c.args.atom c.in-Some.rule (key_of c.take.new.self) (key_of c.rules.taking.coming) (number_in c.rules.taking.positions) c.rules.rounds
taken g c =
    let before = c.rules.taking in
    rule_taken (g.S.RuleSource.meaning c.args.set.now.source.now) (marked c.args.set.now.marks.now) (c.args.round - 1) (number_in before.positions) (key_of before.waiting) (key_of before.coming) c.rules.rounds
    c.args.atom c.in-Some.rule (held g c).1 (held g c).3 (held g c).0 (key_of c.take.new.self) c.in-Some.ensures.after c.rules.invariant.under

pub rules-smaller : goal.rules-smaller
rules-smaller g c =
    let place = (goal.at.rules-smaller g c).In-Some in
    let has = held g place in
    let fewer = fewer_once_taken 16385 (key_of c.rules.taking.waiting) (key_of c.take.new.self) c.in-Some.rule c.args.atom c.in-Some.ensures.after has.0 has.3 has.1 has.2 in
    omega (arith, fewer, (c.ask_rule.ensures.under c.args.atom c.requires.some (taken g place)).1)

pub rules-preserved : goal.rules-preserved
rules-preserved g c = record {
  under = (c.ask_rule.ensures.under c.args.atom c.requires.some (taken g (goal.at.rules-preserved g c).In-Some)).0;
  fewer = omega (arith, c.ask_rule.ensures.fewer, c.rules.invariant.fewer);
}

pub returns-clause-under : goal.returns-clause-under
returns-clause-under g c =
    let p = g.S.RuleSource.meaning c.args.set.now.source.now in
    let set = marked c.args.set.now.marks.now in
    let before = c.rules.taking in
    subst (λ f. Progress p set (c.args.round - 1) 0 0 f (key_of before.coming) (number_in before.positions) c.rules.rounds) (sym (fun_ext c.in_default.ensures.after))
    (rules_asked p set (c.args.round - 1) (number_in before.positions) (key_of before.waiting) (key_of before.coming) c.rules.rounds c.args.atom (c.take.ensures.none c.in_default.is c.requires.some) c.rules.invariant.under)
