-- The walk looks at each negative atom.
use Rattle.std.proofs.Common.{◌≡◌, not, ap, rules, tests}
use Rattle.std.proofs.lemmas.Iterator.Consumers.{YieldsList-from_first}
use Rattle.std.proofs.lemmas.Iterator.Search.{any_from_yields_List}
use Rattle.rules.specs.Parts.{atoms_left}
use Rattle.rules.specs.Questions.{negative_part}
use Rattle.rules.specs.Tests.{any}
use Rattle.marks.specs.Marks.{marked}
use Rattle.support.proofs.MarkedSet.negative_part_holds.Goals as goal

pub returns : goal.returns
returns g c =
    let walked : c.any.result ≡ any (marked c.args.self.now.marks.now) (negative_part (g.S.RuleSource.meaning c.args.self.now.source.now) c.args.rule) = any_from_yields_List (marked c.args.self.now.marks.now) c.any.new.self _ _ c.any.ensures.ran (YieldsList-from_first (λ x. x) (atoms_left g.S.RuleSource.meaning) _ c.atoms_of.ensures.value) (λ x b q k. search (rules, tests)) in
    record { value = ap not walked }
