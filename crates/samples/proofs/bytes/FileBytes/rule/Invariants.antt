-- Each atom so far has added two bytes.
use Rattle.std.proofs.Common.{◌≡◌, ◌+◌, ◌*◌, vec_len}
use Rattle.samples.proofs.bytes.FileBytes.rule.Given as goal

abbrev pub invariant-loop-atom : goal.invariant-loop-atom
invariant-loop-atom l = vec_len l.self.bytes + 2 * l.first ≡ vec_len l.initial.self.bytes + 2 * l.atom
