-- What the loop of `push_numbers` keeps.
use Rattle.std.proofs.Common.{◌≡◌, ◌++◌, drop}
use Rattle.records.specs.Words.{word_bytes}
use Rattle.writer.proofs.block.push_numbers.Given as goal

-- what stands and the bytes of what is left make what stood and those of all numbers
abbrev pub invariant-loop-number : goal.invariant-loop-number
invariant-loop-number l = l.block.items ++ word_bytes (drop l.number-index l.numbers) ≡ l.initial.block.items ++ word_bytes l.numbers
