-- One atom more looked at.
use Rattle.std.proofs.Common.{[], sym, ap, ◌∙◌}
use Rattle.records.specs.Words.{words}
use Rattle.program.proofs.Walks.{rises, rises_whole, rises_fails, rises_on, rises_ends}
use Rattle.program.proofs.parts.ascends_within.Goals as goal

pub atoms-init : goal.atoms-init
atoms-init c = ap (λ (s : _). rises c.args.n 0 (words s.bytes.now)) c.into_iter-atom-iterator.ensures.into_iter_gives ∙ ap (λ bytes. rises c.args.n 0 (words bytes)) c.words_in-atom-items.ensures.value ∙ rises_whole c.args.n (words c.args.part.now)

pub returns-then-atom-last : goal.returns-then-atom-last
returns-then-atom-last c =
    let n = c.args.n in
    let last = c.atoms.last in
    record { value = sym (rises_fails n last c.in-Some.atom (words c.next.new.self.bytes.now) c.if-atom-last.true) ∙ sym (ap (rises n last) c.in-Some.ensures.steps) ∙ c.atoms.invariant }

pub atoms-preserved : goal.atoms-preserved
atoms-preserved c =
    let n = c.args.n in
    let last = c.atoms.last in
    sym (rises_on n last c.in-Some.atom (words c.next.new.self.bytes.now) c.if-atom-last.false) ∙ sym (ap (rises n last) c.in-Some.ensures.steps) ∙ c.atoms.invariant

pub returns : goal.returns
returns c =
    let n = c.args.n in
    let last = c.atoms.last in
    record { value = sym (rises_ends n last) ∙ sym (ap (rises n last) c.in-None.ensures.steps.0) ∙ c.atoms.invariant }
