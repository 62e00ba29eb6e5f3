-- Each rule so far has added eight bytes.
use Rattle.std.proofs.Common.{◌≡◌, ◌+◌, ◌*◌, vec_len}
use Rattle.samples.proofs.bytes.FileBytes.facts.Given as goal

abbrev pub invariant-loop-i : goal.invariant-loop-i
invariant-loop-i l = vec_len l.self.bytes ≡ vec_len l.initial.self.bytes + 8 * l._i
