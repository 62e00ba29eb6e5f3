-- There are never more bytes than the limit, and more of them with each turn.
use Rattle.std.proofs.Common.{◌-◌, ◌≤◌, vec_len}
use Rattle.files.proofs.read_into.Given as goal

abbrev pub invariant-loop-block : goal.invariant-loop-block
invariant-loop-block l = vec_len l.bytes ≤ 65001

abbrev pub decreases-loop-block : goal.decreases-loop-block
decreases-loop-block l = 65001 - vec_len l.bytes
