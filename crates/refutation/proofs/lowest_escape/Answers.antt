-- One atom more looked at.
use Rattle.std.proofs.Common.{◌≡◌, ℕ, ◌+◌, ◌≤◌, false, is_some, Some, None, Option, unwrap_or, sym, ap, ◌∙◌, arith}
use Rattle.std.proofs.lemmas.Bool.{and_from, and_left, and_right}
use Rattle.marks.specs.Marks.{doubted, marked}
use Rattle.rules.specs.Program.{Program}
use Rattle.rules.specs.Stable.{Atoms}
use Rattle.rules.specs.Tests.{lowest}
use Rattle.rules.proofs.Tests.{lowest_from, lowest_from_here, lowest_from_last, lowest_from_more}
use Rattle.refutation.specs.Refute.{escape_of, escapes, freeing_rule, lowest_escape}
use Rattle.refutation.specs.declared.Escape.{Escape}
use Rattle.refutation.proofs.lowest_escape.Goals as goal

module _ (p : Program) (set doubt : Atoms) (atom : ℕ) (so_far : lowest_from (escapes p set doubt) p.atoms atom ≡ lowest (escapes p set doubt) p.atoms) (stays : escapes p set doubt atom ≡ false) where
  passed : atom ≤ p.atoms → lowest_from (escapes p set doubt) p.atoms (atom + 1) ≡ lowest (escapes p set doubt) p.atoms
  passed within = sym (lowest_from_more (escapes p set doubt) p.atoms atom within stays) ∙ so_far

  none : atom ≡ p.atoms → None ≡ lowest_escape p set doubt
  none last = ap (escape_of p set doubt) (sym (lowest_from_last (escapes p set doubt) p.atoms atom last stays) ∙ so_far)

pub loop-atom-preserved-then-not-is_doubted : goal.loop-atom-preserved-then-not-is_doubted
loop-atom-preserved-then-not-is_doubted g c =
    let p = g.S.RuleSource.meaning c.args.set.now.source.now in
    let marks = c.args.set.now.marks.now in
    let atom = c.loop-atom.atom in
    let within : atom ≤ p.atoms = omega (arith, c.atoms-atom-end.ensures.value) in
    passed p (marked marks) (doubted marks) atom c.loop-atom.invariant (and_left (doubted marks atom) _ (sym c.if-not-is_doubted.ensures.value)) within

pub returns-then-not-is_doubted : goal.returns-then-not-is_doubted
returns-then-not-is_doubted g c =
    let p = g.S.RuleSource.meaning c.args.set.now.source.now in
    let marks = c.args.set.now.marks.now in
    let atom = c.loop-atom.atom in
    let last : atom ≡ p.atoms = omega (arith, c.atoms-atom-end.ensures.value) in
    record { value = none p (marked marks) (doubted marks) atom c.loop-atom.invariant (and_left (doubted marks atom) _ (sym c.if-not-is_doubted.ensures.value)) last }

pub loop-atom-preserved : goal.loop-atom-preserved
loop-atom-preserved g c =
    let p = g.S.RuleSource.meaning c.args.set.now.source.now in
    let marks = c.args.set.now.marks.now in
    let atom = c.loop-atom.atom in
    let within : atom ≤ p.atoms = omega (arith, c.atoms-atom-end.ensures.value) in
    passed p (marked marks) (doubted marks) atom c.loop-atom.invariant (and_right (doubted marks atom) _ (ap is_some (sym c.in_default.ensures.value))) within

pub returns-in_default : goal.returns-in_default
returns-in_default g c =
    let p = g.S.RuleSource.meaning c.args.set.now.source.now in
    let marks = c.args.set.now.marks.now in
    let atom = c.loop-atom.atom in
    let last : atom ≡ p.atoms = omega (arith, c.atoms-atom-end.ensures.value) in
    record { value = none p (marked marks) (doubted marks) atom c.loop-atom.invariant (and_right (doubted marks atom) _ (ap is_some (sym c.in_default.ensures.value))) last }

pub returns-in-Some : goal.returns-in-Some
returns-in-Some g c =
    let p = g.S.RuleSource.meaning c.args.set.now.source.now in
    let marks = c.args.set.now.marks.now in
    let atom = c.loop-atom.atom in
    let within : atom ≤ p.atoms = omega (arith, c.atoms-atom-end.ensures.value) in
    let freed : freeing_rule p (marked marks) (doubted marks) atom ≡ Some c.in-Some.rule = sym c.in-Some.ensures.value in
    let found = and_from (doubted marks atom) (is_some (freeing_rule p (marked marks) (doubted marks) atom)) (sym c.if-not-is_doubted.ensures.value) (ap is_some freed) in
    let first = sym (lowest_from_here (escapes p (marked marks) (doubted marks)) p.atoms atom within found) ∙ c.loop-atom.invariant in
    let escape : Option ℕ → Option Escape = λ o. Some (record { atom = atom; rule = unwrap_or o 0 }) in
    record { value = ap escape (sym freed) ∙ ap (escape_of p (marked marks) (doubted marks)) first }
