-- What the loop of `gather` keeps.
use Rattle.std.proofs.Common.{◌≡◌, ◌+◌}
use Rattle.support.proofs.Chains.{firsts, nexts}
use Rattle.support.proofs.heads.RulesByHead.gather.Given as goal

-- the rules above this one are in their chains
abbrev pub invariant-rules : goal.invariant-rules
invariant-rules g l = record {
  first : l.self.first ≡ firsts (g.S.RuleSource.meaning l.source) 4096 16384 (l.rule + 1);
  next : l.self.next ≡ nexts (g.S.RuleSource.meaning l.source) 4096 16384 (l.rule + 1);
}
