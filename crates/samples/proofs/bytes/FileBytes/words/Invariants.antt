-- Each word so far has added two bytes.
use Rattle.std.proofs.Common.{◌≡◌, ◌+◌, ◌*◌, vec_len}
use Rattle.samples.proofs.bytes.FileBytes.words.Given as goal

abbrev pub invariant-loop-value : goal.invariant-loop-value
invariant-loop-value l = vec_len l.self.bytes ≡ vec_len l.initial.self.bytes + 2 * l.value-index
