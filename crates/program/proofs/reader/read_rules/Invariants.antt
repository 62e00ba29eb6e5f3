-- What is left of the file gives the answer, and becomes shorter.
use Rattle.std.proofs.Common.{◌+◌, ◌≤◌, length, replicate}
use Rattle.program.specs.Reading.{rules_from}
use Rattle.program.specs.Index.{indexed_from}
use Rattle.program.proofs.Rules.{SoFar}
use Rattle.program.proofs.reader.read_rules.Given as goal

abbrev pub invariant-records : goal.invariant-records
invariant-records l = record {
  inside : l.rest.place + length l.rest.bytes.now ≤ 65000;
  so_far : SoFar l.head.atoms l.head.rules l.starts l.count l.rest.bytes.now l.rest.place (indexed_from l.head.atoms (replicate 8000 0) 0 l.records.place (rules_from 8000 l.head.atoms l.head.rules 0 l.records.bytes.now l.records.place));
}

abbrev pub decreases-records : goal.decreases-records
decreases-records l = length l.rest.bytes.now
