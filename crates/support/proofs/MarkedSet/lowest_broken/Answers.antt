-- The first rule that passes is the lowest.
use Rattle.std.proofs.Common.{ℕ, Bool, length, arith, rules, tests}
use Rattle.std.proofs.lemmas.Iterator.Search.{find_from_yields_List}
use Rattle.rules.specs.Questions.{rule_at}
use Rattle.rules.proofs.Ranges.{numbers_of, lowest_found}
use Rattle.marks.specs.Marks.{marked}
use Rattle.support.specs.Rules.{is_broken}
use Rattle.support.proofs.MarkedSet.lowest_broken.Goals as goal

pub returns : goal.returns
returns g c =
    let p = g.S.RuleSource.meaning c.args.self.now.source.now in
    let test : ℕ → Bool = λ k. is_broken (marked c.args.self.now.marks.now) (rule_at p k) in
    let numbers = numbers_of 1 c.rules.result (length p.rules) c.new.ensures.start c.new.ensures.end c.new.ensures.exhausted (omega (arith, c.rules.ensures.value)) in
    record { value = lowest_found test (length p.rules) c.find.result (find_from_yields_List test c.find.new.self _ c.find.result c.find.ensures.ran numbers (λ x b q k. search (rules, tests))) }
