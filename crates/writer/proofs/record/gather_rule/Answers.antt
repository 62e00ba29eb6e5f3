-- The numbers of a rule's record, one after the other.
use Rattle.std.proofs.Common.{[], ◌∷◌, ◌≡◌, ◌+◌, ◌*◌, ◌++◌, length, unwrap_or, ap, ◌∙◌, arith}
use Rattle.std.proofs.lemmas.List.{length-append}
use Rattle.records.specs.Words.{word_bytes}
use Rattle.records.proofs.Encoded.{length-word_bytes}
use Rattle.rules.specs.Questions.{positive_part, negative_part}
use Rattle.rules.proofs.Parts.{few_in_parts}
use Rattle.writer.proofs.Rules.{asked_in_turn}
use Rattle.writer.proofs.record.gather_rule.Goals as goal

pub push_atoms-requires-2 : goal.push_atoms-requires-2
push_atoms-requires-2 g c =
    let p = g.S.RuleSource.meaning c.args.source.now in
    let few = few_in_parts p (g.S.RuleSource.lawful c.args.source.now) c.args.rule in
    let left = positive_part p c.args.rule in
    let long = ap length c.push_atoms.ensures.after ∙ length-append c.push_numbers.new.block.items (word_bytes left) in
    let size = 4 + 2 * (c.count_atoms-positive.result + c.count_atoms-negative.result) in
    let begun = c.push_numbers.ensures.after ∙ ap (λ t. t ++ word_bytes (size ∷ (c.number-kind.result ∷ (c.unwrap_or-head.result ∷ (c.count_atoms-positive.result ∷ []))))) c.requires.empty in
    record { room = omega (arith, few, long, ap length begun, length-word_bytes left) }

pub returns : goal.returns
returns g c =
    let p = g.S.RuleSource.meaning c.args.source.now in
    let left = positive_part p c.args.rule in
    let right = negative_part p c.args.rule in
    let size = 4 + 2 * (c.count_atoms-positive.result + c.count_atoms-negative.result) in
    let size_so : size ≡ 4 + 2 * (length left + length right) = omega (arith, c.count_atoms-positive.ensures.value, c.count_atoms-negative.ensures.value) in
    let head_so = c.unwrap_or-head.ensures ∙ ap (λ o. unwrap_or o 0) c.head.ensures.value in
    let begun = c.push_numbers.ensures.after ∙ ap (λ t. t ++ word_bytes (size ∷ (c.number-kind.result ∷ (c.unwrap_or-head.result ∷ (c.count_atoms-positive.result ∷ []))))) c.requires.empty in
    record {
      after = c.push_atoms-2.ensures.after
          ∙ ap (λ t. t ++ word_bytes right) (c.push_atoms.ensures.after ∙ ap (λ t. t ++ word_bytes left) (begun ∙ ap (λ k. word_bytes (size ∷ (k ∷ (c.unwrap_or-head.result ∷ (c.count_atoms-positive.result ∷ []))))) c.number-kind.ensures.value))
          ∙ asked_in_turn p c.args.rule size c.unwrap_or-head.result c.count_atoms-positive.result size_so head_so c.count_atoms-positive.ensures.value;
    }
