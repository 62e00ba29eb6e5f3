-- Each rule so far has added 518 bytes.
use Rattle.std.proofs.Common.{◌≡◌, ◌+◌, ◌*◌, vec_len}
use Rattle.source_cases.proofs.writing.long_rules.Given as goal

abbrev pub invariant-loop-i : goal.invariant-loop-i
invariant-loop-i l = vec_len l.file.bytes ≡ 8 + 518 * l._i
