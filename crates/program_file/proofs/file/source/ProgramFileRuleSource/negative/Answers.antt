-- The record at the rule's place holds what the program has.
use Rattle.std.proofs.Common.{rules, ◌≡◌, None, sym, ap, ◌∙◌}
use Rattle.std.specs.Option.{option_map}
use Rattle.rules.specs.Questions.{in_part}
use Rattle.program_file.proofs.Questions.{rule_stands, rule_absent, negative_answer, whole_there}
use Rattle.program_file.proofs.file.source.ProgramFileRuleSource.negative.Goals as goal

pub returns-in_err-start : goal.returns-in_err-start
returns-in_err-start c =
    let file = c.args.self.now in
    let none : c.from_residual.result ≡ None = search rules in
    record { value = none ∙ sym (ap (λ o. in_part (option_map (λ r. r.negative) o) c.args.position) (rule_absent file.bytes.now file.checked file.index file.indexed c.args.rule c.in_err-start.ensures.value)) }

pub negative_at-requires : goal.negative_at-requires
negative_at-requires c =
    let file = c.args.self.now in
    record { whole = whole_there file.bytes.now c.in_ok-start.start _ (rule_stands file.bytes.now file.checked file.index file.indexed c.args.rule c.in_ok-start.start c.in_ok-start.ensures.value) }

pub returns : goal.returns
returns c =
    let file = c.args.self.now in
    let at = rule_stands file.bytes.now file.checked file.index file.indexed c.args.rule c.in_ok-start.start c.in_ok-start.ensures.value in
    record { value = c.negative_at.ensures.value ∙ negative_answer file.bytes.now c.in_ok-start.start _ at c.args.position }
