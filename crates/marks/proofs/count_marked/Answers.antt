-- The bytes that say that their atom is in are as many as the marked atoms.
use Rattle.std.proofs.Common.{◌≡◌, ◌∙◌, rules}
use Rattle.std.specs.List.{count_by}
use Rattle.marks.specs.Marks.{in_byte}
use Rattle.marks.proofs.Bytes.{counted}
use Rattle.marks.proofs.count_marked.Goals as goal

pub returns : goal.returns
returns c =
    let counts : c.count.result ≡ count_by in_byte c.args.marks.now = search rules in
    record { value = counts ∙ counted c.args.marks.now in_byte }
