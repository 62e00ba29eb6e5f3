-- The first atom that passes is the lowest.
use Rattle.std.proofs.Common.{arith, rules, tests}
use Rattle.std.proofs.lemmas.Iterator.Search.{find_from_yields_List}
use Rattle.rules.proofs.Ranges.{numbers_of, lowest_found}
use Rattle.marks.specs.Marks.{marked}
use Rattle.verdict.specs.Judge.{unlevelled}
use Rattle.verdict.proofs.lowest_unlevelled.Goals as goal

pub returns : goal.returns
returns g c =
    let test = unlevelled g.L.Level.below (marked c.args.marks.now) c.args.levels.now.entries.now in
    let numbers = numbers_of 1 c.args.atoms c.args.atoms c.new.ensures.start c.new.ensures.end c.new.ensures.exhausted (omega arith) in
    record { value = lowest_found test c.args.atoms c.find.result (find_from_yields_List test c.find.new.self _ c.find.result c.find.ensures.ran numbers (λ x b q k. search (rules, tests))) }
