-- The filter keeps the marked atoms that no round took.
use Rattle.std.proofs.Common.{ℕ, ◌&&◌, ◌==◌, Bool, ap, ◌∙◌, arith, rules, tests}
use Rattle.std.specs.Range.{range_inclusive_start, range_inclusive_end, range_inclusive_exhausted}
use Rattle.std.proofs.lemmas.Iterator.Consumers.{YieldsList-from_filter, count_from_yields_List}
use Rattle.marks.specs.Marks.{marked}
use Rattle.rules.proofs.Ranges.{length-filter_numbers, numbers_of}
use Rattle.rounds.specs.Taking.{number_in}
use Rattle.settlement.proofs.count_left.Goals as goal

pub returns : goal.returns
returns c =
    let n = c.args.n in
    let test : ℕ → Bool = λ a. marked c.args.marks.now a && number_in c.args.rounds.now a == 0 in
    let from = c.filter.ensures.source in
    let numbers = numbers_of 1 n n (ap range_inclusive_start from ∙ c.new.ensures.start) (ap range_inclusive_end from ∙ c.new.ensures.end) (ap range_inclusive_exhausted from ∙ c.new.ensures.exhausted) (omega arith) in
    record { value = count_from_yields_List _ c.count.result c.count.ensures.ran (YieldsList-from_filter _ test numbers c.filter.ensures.closure (λ x b q k. search (rules, tests))) ∙ length-filter_numbers test 1 n }
