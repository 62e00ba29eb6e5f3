-- What is left has at least one atom.
use Rattle.std.proofs.Common.{◌≤◌, ◌++◌, length, ap, arith}
use Rattle.std.proofs.lemmas.List.{length-append}
use Rattle.records.specs.Words.{word_bytes}
use Rattle.records.proofs.Encoded.{length-word_bytes}
use Rattle.rules.specs.Parts.{part_of, atoms_left}
use Rattle.writer.proofs.Atoms.{room_left}
use Rattle.writer.proofs.part.push_atoms.Goals as goal

pub push_number-requires : goal.push_number-requires
push_number-requires g c =
    let part = part_of (g.S.RuleSource.meaning c.args.source.now) c.args.rule c.args.part in
    let before = c.args.block.now.items in
    let rest = atoms_left g.S.RuleSource.meaning c.loop-atom.atom-iterator in
    let some : 1 ≤ length rest = omega (arith, ap length c.in-Some.ensures.steps) in
    record {
      room = omega (arith, room_left c.loop-atom.block.items rest (before ++ word_bytes part) c.loop-atom.invariant some, length-append before (word_bytes part), length-word_bytes part, c.requires.room);
    }
