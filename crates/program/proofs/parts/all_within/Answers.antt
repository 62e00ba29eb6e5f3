-- The numbers in the part are tested one by one.
use Rattle.std.proofs.Common.{ap, rules}
use Rattle.std.proofs.lemmas.Iterator.Consumers.{YieldsList-from_first}
use Rattle.std.proofs.lemmas.Iterator.Search.{all_from_yields_List}
use Rattle.records.specs.Words.{words}
use Rattle.rules.specs.Program.{within}
use Rattle.program.proofs.parts.all_within.Goals as goal
use borrow.Author.Tests.{tests}

pub returns : goal.returns
returns c =
    let test = within c.args.n in
    record {
      value = all_from_yields_List test c.all.new.self _ _ c.all.ensures.ran (YieldsList-from_first (λ x. x) (λ s. words s.bytes.now) _ (ap words c.words_in.ensures.value)) (λ x b q k. search (rules, tests));
    }
