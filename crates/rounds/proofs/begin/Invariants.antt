-- What the loop of `begin` keeps.
use Rattle.std.proofs.Common.{◌≡◌}
use Rattle.tables.specs.Entries.{table_of}
use Rattle.rounds.specs.Progress.{Begins}
use Rattle.rounds.proofs.begin.Given as goal

-- the rules before this one wait for the start
abbrev pub invariant-rules : goal.invariant-rules
invariant-rules g l = record {
  begins : Begins (g.S.RuleSource.meaning l.set.source.now) l.rule l.taking;
  cleared : l.rounds ≡ table_of (λ a. 0) (g.S.RuleSource.meaning l.set.source.now).atoms;
}
