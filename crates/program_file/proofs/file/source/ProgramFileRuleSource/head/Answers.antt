-- The record at the rule's place holds what the program has.
use Rattle.std.proofs.Common.{rules, ◌≡◌, None, sym, ap, ◌∙◌}
use Rattle.std.specs.Option.{option_map}
use Rattle.program_file.proofs.Questions.{rule_stands, rule_absent, head_answer, whole_there}
use Rattle.program_file.proofs.file.source.ProgramFileRuleSource.head.Goals as goal

pub returns-in_err-start : goal.returns-in_err-start
returns-in_err-start c =
    let file = c.args.self.now in
    let none : c.from_residual.result ≡ None = search rules in
    record { value = none ∙ sym (ap (λ o. option_map (λ r. r.head) o) (rule_absent file.bytes.now file.checked file.index file.indexed c.args.rule c.in_err-start.ensures.value)) }

pub head_at-requires : goal.head_at-requires
head_at-requires c =
    let file = c.args.self.now in
    record { whole = whole_there file.bytes.now c.in_ok-start.start _ (rule_stands file.bytes.now file.checked file.index file.indexed c.args.rule c.in_ok-start.start c.in_ok-start.ensures.value) }

pub returns : goal.returns
returns c =
    let file = c.args.self.now in
    let at = rule_stands file.bytes.now file.checked file.index file.indexed c.args.rule c.in_ok-start.start c.in_ok-start.ensures.value in
    record { value = c.head_at.ensures.value ∙ head_answer file.bytes.now c.in_ok-start.start _ at }
