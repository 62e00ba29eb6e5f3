-- The bytes that say that their atom is doubted are as many as the doubted atoms.
use Rattle.std.proofs.Common.{◌≡◌, ◌∙◌, rules}
use Rattle.std.specs.List.{count_by}
use Rattle.marks.specs.Marks.{doubted_byte}
use Rattle.marks.proofs.Bytes.{counted}
use Rattle.marks.proofs.count_doubted.Goals as goal

pub returns : goal.returns
returns c =
    let counts : c.count.result ≡ count_by doubted_byte c.args.marks.now = search rules in
    record { value = counts ∙ counted c.args.marks.now doubted_byte }
