-- What is left has at least one number.
use Rattle.std.proofs.Common.{◌≤◌, ◌++◌, length, drop, arith, length-drop}
use Rattle.std.proofs.lemmas.List.{length-append}
use Rattle.records.specs.Words.{word_bytes}
use Rattle.records.proofs.Encoded.{length-word_bytes}
use Rattle.writer.proofs.Atoms.{room_left}
use Rattle.writer.proofs.block.push_numbers.Goals as goal

pub push_number-requires : goal.push_number-requires
push_number-requires c =
    let numbers = c.args.numbers.now in
    let before = c.args.block.now.items in
    let rest = drop c.loop-number.number-index numbers in
    let some : 1 ≤ length rest = omega (arith, length-drop c.loop-number.number-index numbers, c.loop-number-test.true) in
    record {
      room = omega (arith, room_left c.loop-number.block.items rest (before ++ word_bytes numbers) c.loop-number.invariant some, length-append before (word_bytes numbers), length-word_bytes numbers, c.requires.room);
    }
