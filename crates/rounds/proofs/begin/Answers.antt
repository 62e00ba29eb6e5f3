-- One rule more waits for the start, and at the end all do.
use Rattle.std.proofs.Common.{◌+◌, ◌<◌, ◌≤◌, length, replicate, ap, ◌∙◌, arith}
use Rattle.marks.specs.Marks.{marked}
use Rattle.tables.proofs.Entries.{table_replicate}
use Rattle.rounds.proofs.Beginning.{begins_more, begins_none, begun_all}
use Rattle.rounds.proofs.begin.Goals as goal

pub rules-init : goal.rules-init
rules-init g c =
    let p = g.S.RuleSource.meaning c.args.set.now.source.now in
    record {
      begins = begins_none p c.args.taking.now c.requires.idle c.add.new.self c.add.ensures.after _;
      cleared = c.fill.ensures.after (λ y same. same) ∙ ap (λ n. replicate n 0) c.requires.rounds ∙ table_replicate 0 p.atoms;
    }

pub rules-preserved : goal.rules-preserved
rules-preserved g c =
    let p = g.S.RuleSource.meaning c.args.set.now.source.now in
    let k = c.rules.rule in
    let within : k ≤ length p.rules = omega (arith, c.rules-test.true, c.rules-rule-end.ensures.value) in
    let few : k ≤ 16384 = omega (arith, within, (g.S.RuleSource.lawful c.args.set.now.source.now).rules_bound) in
    record {
      begins = begins_more p k c.rules.taking c.rules.invariant.begins c.rules.auto.rule within few c.add-in-rules.new.self c.add-in-rules.ensures.after _;
      cleared = c.rules.invariant.cleared;
    }

pub returns-clause-under : goal.returns-clause-under
returns-clause-under g c =
    let p = g.S.RuleSource.meaning c.args.set.now.source.now in
    let past : length p.rules < c.rules.rule = omega (arith, c.rules-test.false, c.rules-rule-end.ensures.value) in
    begun_all p c.rules.rule c.rules.taking c.rules.invariant.begins (marked c.args.set.now.marks.now) past (g.S.RuleSource.lawful c.args.set.now.source.now).atoms_bound c.fill.new.self c.rules.invariant.cleared

pub returns-2-clause-under : goal.returns-2-clause-under
returns-2-clause-under g c =
    let p = g.S.RuleSource.meaning c.args.set.now.source.now in
    let k = c.rules.rule in
    let within : k ≤ length p.rules = omega (arith, c.rules-test.true, c.rules-rule-end.ensures.value) in
    let few : k ≤ 16384 = omega (arith, within, (g.S.RuleSource.lawful c.args.set.now.source.now).rules_bound) in
    let past : length p.rules < k + 1 = omega (arith, c.rules-rule-end.ensures.value) in
    let taking = c.rules.taking in
    let begins = begins_more p k taking c.rules.invariant.begins c.rules.auto.rule within few c.add-in-rules.new.self c.add-in-rules.ensures.after taking.sized in
    begun_all p (k + 1) (record { waiting = c.add-in-rules.new.self; coming = taking.coming; positions = taking.positions; sized = taking.sized }) begins (marked c.args.set.now.marks.now) past (g.S.RuleSource.lawful c.args.set.now.source.now).atoms_bound c.fill.new.self c.rules.invariant.cleared
