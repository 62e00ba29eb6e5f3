-- One rule more is put in its chain, and at the end all are.
use Rattle.std.proofs.Common.{◌≡◌, ◌+◌, ◌<◌, ◌≤◌, length, Some, sym, ap, ◌∙◌, arith}
use Rattle.rules.specs.Questions.{head_at}
use Rattle.tables.proofs.Entries.{changed_none}
use Rattle.support.specs.Chains.{by_head, number_of}
use Rattle.support.proofs.Chains.{firsts, firsts_put, head_there, nexts, nexts_put, no_firsts, no_nexts, rule_after, same_heads}
use Rattle.support.proofs.heads.RulesByHead.gather.Goals.{in-Some, in_default}
use Rattle.support.proofs.heads.RulesByHead.gather.Goals as goal

pub rules-init : goal.rules-init
rules-init g c =
    let p = g.S.RuleSource.meaning c.args.source.now in
    let past : length p.rules < c.rules-rule.result + 1 = omega (arith, c.rules-rule.ensures.value) in
    record {
      first = ap (λ h. h.first) c.empty.ensures.value ∙ no_firsts p 4096 16384 (c.rules-rule.result + 1) past;
      next = ap (λ h. h.next) c.empty.ensures.value ∙ no_nexts p 4096 16384 (c.rules-rule.result + 1) past;
    }

pub rules-preserved : goal.rules-preserved
rules-preserved g c =
    let p = g.S.RuleSource.meaning c.args.source.now in
    let lawful = g.S.RuleSource.lawful c.args.source.now in
    let k = c.rules.rule in
    let heads = c.rules.self in
    let so_far = c.rules.invariant in
    let some : 1 ≤ k = omega arith in
    let within : k ≤ length p.rules = omega (arith, c.rules-rule.ensures.value, c.rules.auto.rule) in
    elim c.match-head.branch [
      | in-Some w ↦
          let a = w.in-Some.head in
          let is : head_at p k ≡ Some a = sym c.head.ensures.value ∙ w.in-Some.is in
          record {
            first = ap (λ h. h.first) w.self-is ∙ w.put.ensures.first ∙ firsts_put p 4096 16384 lawful lawful.atoms_bound k a some within is heads.first heads.next so_far.first;
            next = ap (λ h. h.next) w.self-is ∙ w.put.ensures.next ∙ nexts_put p 4096 16384 lawful lawful.atoms_bound k a some within is heads.first heads.next so_far.first so_far.next;
          }
      | in_default w ↦ absurd (head_there p k some within (sym c.head.ensures.value ∙ w.in_default.is))
    ]

pub returns : goal.returns
returns g c =
    let p = g.S.RuleSource.meaning c.args.source.now in
    let all : c.rules.rule + 1 ≡ 1 = omega arith in
    record { after = same_heads c.rules.self (by_head p) (c.rules.invariant.first ∙ ap (firsts p 4096 16384) all) (c.rules.invariant.next ∙ ap (nexts p 4096 16384) all ∙ sym (changed_none (λ j. 0) (λ j. number_of (rule_after p j)) 16384)) }
