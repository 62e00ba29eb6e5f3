-- The walk looks for a doubted positive atom.
use Rattle.std.proofs.Common.{◌≡◌, true, not, ◌&&◌, sym, ap, ◌∙◌, rules, tests}
use Rattle.std.proofs.lemmas.Iterator.Consumers.{YieldsList-from_first}
use Rattle.std.proofs.lemmas.Iterator.Search.{any_from_yields_List}
use Rattle.rules.specs.Parts.{atoms_left}
use Rattle.rules.specs.Questions.{positive_part}
use Rattle.rules.specs.Tests.{all, any}
use Rattle.rules.proofs.Tests.{all_not}
use Rattle.marks.specs.Marks.{doubted, marked}
use Rattle.support.specs.Rules.{supports_at}
use Rattle.support.proofs.Support.{supports_with_parts}
use Rattle.refutation.proofs.frees.Goals as goal

pub returns-then-supports : goal.returns-then-supports
returns-then-supports g c =
    let p = g.S.RuleSource.meaning c.args.set.now.source.now in
    let marks = c.args.set.now.marks.now in
    let part = positive_part p c.args.rule in
    let walked : c.any.result ≡ any (doubted marks) part = any_from_yields_List (doubted marks) c.any.new.self _ _ c.any.ensures.ran (YieldsList-from_first (λ x. x) (atoms_left g.S.RuleSource.meaning) _ c.atoms_of.ensures.value) (λ x b q k. search (rules, tests)) in
    let supports : supports_at p (marked marks) c.args.atom c.args.rule ≡ true = sym c.if-supports.ensures.value in
    record { value = ap not walked ∙ sym (all_not (doubted marks) part) ∙ sym (ap (λ b. b && all (λ a. not (doubted marks a)) part) supports) ∙ sym (supports_with_parts (λ a. not (doubted marks a)) (marked marks) c.args.atom p c.args.rule) }
