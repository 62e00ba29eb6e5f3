-- The walk looks at each positive atom.
use Rattle.std.proofs.Common.{◌≡◌, rules, tests}
use Rattle.std.proofs.lemmas.Iterator.Consumers.{YieldsList-from_first}
use Rattle.std.proofs.lemmas.Iterator.Search.{all_from_yields_List}
use Rattle.rules.specs.Parts.{atoms_left}
use Rattle.rules.specs.Questions.{positive_part}
use Rattle.rules.specs.Tests.{all}
use Rattle.marks.specs.Marks.{marked}
use Rattle.support.proofs.MarkedSet.body_holds.Given as given
use Rattle.support.proofs.MarkedSet.body_holds.Goals.{After-all}
use Rattle.support.proofs.MarkedSet.body_holds.Goals as goal

every : (g : given.Over) (c : After-all g) → c.all.result ≡ all (marked c.args.self.now.marks.now) (positive_part (g.S.RuleSource.meaning c.args.self.now.source.now) c.args.rule)
every g c = all_from_yields_List (marked c.args.self.now.marks.now) c.all.new.self _ _ c.all.ensures.ran (YieldsList-from_first (λ x. x) (atoms_left g.S.RuleSource.meaning) _ c.atoms_of.ensures.value) (λ x b q k. search (rules, tests))

pub returns-then-all : goal.returns-then-all
returns-then-all g c =
    let h = every g (goal.at.returns-then-all g c).After-all in
    let k = c.negative_part_holds.ensures.value in
    search rules

pub returns-else-all : goal.returns-else-all
returns-else-all g c = let h = every g (goal.at.returns-else-all g c).After-all in search rules
