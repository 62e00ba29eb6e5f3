-- What the loop of `push_atoms` keeps.
use Rattle.std.proofs.Common.{◌≡◌, ◌++◌}
use Rattle.records.specs.Words.{word_bytes}
use Rattle.rules.specs.Parts.{part_of, atoms_left}
use Rattle.writer.proofs.part.push_atoms.Given as goal

-- what stands and what is left make the whole part
abbrev pub invariant-loop-atom : goal.invariant-loop-atom
invariant-loop-atom g l =
    l.block.items ++ word_bytes (atoms_left g.S.RuleSource.meaning l.atom-iterator) ≡ l.initial.block.items ++ word_bytes (part_of (g.S.RuleSource.meaning l.fn.source) l.fn.rule l.fn.part)
