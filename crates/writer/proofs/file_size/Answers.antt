-- The sizes of the rules are summed.
use Rattle.std.proofs.Common.{◌≡◌, ◌+◌, length, ap, ◌∙◌, arith, rules}
use Rattle.std.specs.List.{range_with_len}
use Rattle.std.proofs.lemmas.Iterator.{YieldsList-from_map}
use Rattle.std.proofs.lemmas.Iterator.Consumers.{YieldsList-at, sum_by_from_yields_List, fits_by_from_yields_list}
use Rattle.program.specs.Encoding.{rule_bytes, encoding}
use Rattle.writer.specs.Parts.{rule_or_empty}
use Rattle.writer.proofs.Files.{sizes, file_bound}
use Rattle.rules.proofs.Ranges.{numbers_of}
use Rattle.writer.proofs.file_size.Given as given
use Rattle.writer.proofs.file_size.Goals as goal

pub sum-requires-clause-fits : goal.sum-requires-clause-fits
sum-requires-clause-fits g c =
    let p = g.S.RuleSource.meaning c.args.source.now in
    let lawful = g.S.RuleSource.lawful c.args.source.now in
    fits_by_from_yields_list (λ k. length (rule_bytes (rule_or_empty p k))) (range_with_len 1 (length p.rules)) c.map.result _
    (YieldsList-from_map _ (λ k. length (rule_bytes (rule_or_empty p k))) (YieldsList-at c.map.ensures.source (numbers_of 1 (length p.rules) (length p.rules) c.new.ensures.start (c.new.ensures.end ∙ c.rules.ensures.value) c.new.ensures.exhausted (omega arith))) c.map.ensures.closure (λ x r q k. search rules))
    (omega (arith, sizes p, file_bound p lawful))

summed : (g : given.Over) (c : goal.After-sum g) → 12 + c.sum.result ≡ length (encoding (g.S.RuleSource.meaning c.args.source.now))
summed g c =
    let p = g.S.RuleSource.meaning c.args.source.now in
    ap (λ n. 12 + n)
    (sum_by_from_yields_List (λ k. length (rule_bytes (rule_or_empty p k))) (range_with_len 1 (length p.rules)) c.map.result c.sum.result c.sum.ensures.ran
    (YieldsList-from_map _ (λ k. length (rule_bytes (rule_or_empty p k))) (YieldsList-at c.map.ensures.source (numbers_of 1 (length p.rules) (length p.rules) c.new.ensures.start (c.new.ensures.end ∙ c.rules.ensures.value) c.new.ensures.exhausted (omega arith))) c.map.ensures.closure (λ x r q k. search rules)))
    ∙ sizes p

pub overflow_add-result : goal.overflow_add-result
overflow_add-result g c = omega (arith, summed g c, file_bound (g.S.RuleSource.meaning c.args.source.now) (g.S.RuleSource.lawful c.args.source.now))

pub returns : goal.returns
returns g c = record { value = summed g c }
