-- What judge answers is what is defined, and by that definition only a stable set is accepted.
use Rattle.std.proofs.Common.{◌≡◌, Result, sym, subst, rules}
use Rattle.refusal.specs.declared.Refusal.{Refusal}
use Rattle.verdict.specs.Judge.{judged}
use Rattle.verdict.specs.declared.Verdict.{Verdict}
use Rattle.verdict.proofs.Accepted.{judged_is_stable}
use Rattle.verdict.proofs.judge.Goals as goal

pub returns : goal.returns
returns g c =
    let level = g.L.Level in
    let p = g.S.RuleSource.meaning c.args.source.now in
    let marks = c.args.marks.now in
    let entries = c.args.levels.now.entries.now in
    record {
      value = search rules;
      accepted_is_stable = λ m e. judged_is_stable level.below level.RUNGS level.rung level.laws p marks entries m
          (subst (λ (v : Result Verdict Refusal). judged level.below p marks entries ≡ v) e (sym (search rules)));
    }
