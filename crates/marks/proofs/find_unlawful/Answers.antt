-- The first byte without a meaning is that of the lowest such atom.
use Rattle.std.proofs.Common.{◌≡◌, ◌+◌, not, option_map, ◌∙◌, rules}
use Rattle.std.specs.List.{position}
use Rattle.marks.specs.Marks.{lawful_byte}
use Rattle.marks.proofs.Bytes.{found}
use Rattle.marks.proofs.find_unlawful.Goals as goal

pub returns : goal.returns
returns c =
    let marks = c.args.marks.now in
    let finds : c.map.result ≡ option_map (λ k. k + 1) (position (λ b. not (lawful_byte b)) marks) = search rules in
    record { value = finds ∙ found marks }
