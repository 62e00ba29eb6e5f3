-- One atom, one rule of its chain and one positive atom more looked at.
use Rattle.std.proofs.Common.{◌≡◌, ◌<◌, ◌≤◌, false, Some, None, sym, ◌∙◌, arith}
use Rattle.std.proofs.lemmas.Bool.{and_left, and_right}
use Rattle.marks.specs.Marks.{marked}
use Rattle.rules.specs.Parts.{atoms_left}
use Rattle.rules.proofs.Tests.{lowest_from_here, lowest_from_last, lowest_from_more}
use Rattle.support.proofs.Walk.{Walk, rules_left, supporting, walk_begins, walk_ends, walk_finds, walk_goes_on, walk_shortens}
use Rattle.verdict.specs.Judge.{lower, ungrounded}
use Rattle.verdict.proofs.Grounded.{under}
use Rattle.verdict.proofs.Steps.{by_rule, grounded_by_lowest, grounded_passes, lower_read, not_by_negative, not_by_positive, ungrounded_found, unmarked_passes}
use Rattle.verdict.proofs.lowest_ungrounded.Goals.{After-after-next, In-None, In-Some-other}
use Rattle.verdict.proofs.lowest_ungrounded.Given as given
use Rattle.verdict.proofs.lowest_ungrounded.Goals as goal

pub atoms-preserved-then-not-is_marked : goal.atoms-preserved-then-not-is_marked
atoms-preserved-then-not-is_marked g c =
    let below = g.L.Level.below in
    let source = c.args.set.now.source.now in
    let p = g.S.RuleSource.meaning source in
    let marks = c.args.set.now.marks.now in
    let entries = c.args.levels.now.entries.now in
    let atom = c.atoms.atom in
    let within : atom ≤ p.atoms = omega (arith, c.atoms-atom-end.ensures.value) in
    sym (lowest_from_more (ungrounded below p (marked marks) entries) p.atoms atom within (unmarked_passes below p marks entries atom (sym c.if-not-is_marked.ensures.value))) ∙ c.atoms.invariant

-- the last atom is not marked
pub returns-then-not-is_marked : goal.returns-then-not-is_marked
returns-then-not-is_marked g c =
    let below = g.L.Level.below in
    let source = c.args.set.now.source.now in
    let p = g.S.RuleSource.meaning source in
    let marks = c.args.set.now.marks.now in
    let entries = c.args.levels.now.entries.now in
    let atom = c.atoms.atom in
    let last : atom ≡ p.atoms = omega (arith, c.atoms-atom-end.ensures.value) in
    record { value = sym (lowest_from_last (ungrounded below p (marked marks) entries) p.atoms atom last (unmarked_passes below p marks entries atom (sym c.if-not-is_marked.ensures.value))) ∙ c.atoms.invariant }

pub rules-init : goal.rules-init
rules-init g c =
    let below = g.L.Level.below in
    let source = c.args.set.now.source.now in
    let p = g.S.RuleSource.meaning source in
    let marks = c.args.set.now.marks.now in
    let entries = c.args.levels.now.entries.now in
    let atom = c.atoms.atom in
    walk_begins p (lower below entries atom) (marked marks) atom c.args.heads.now c.first-next.result (g.S.RuleSource.lawful source) c.requires.heads (omega arith) (omega (arith, c.atoms-atom-end.ensures.value)) c.first-next.ensures.value

module _ (g : given.Over) (c : After-after-next g) where
  shortens : rules_left (g.S.RuleSource.meaning c.args.set.now.source.now) c.atoms.atom c.after-next.result < rules_left (g.S.RuleSource.meaning c.args.set.now.source.now) c.atoms.atom c.rules.next
  shortens =
      let source = c.args.set.now.source.now in
      let atom = c.atoms.atom in
      walk_shortens (g.S.RuleSource.meaning source) (lower g.L.Level.below c.args.levels.now.entries.now atom) (marked c.args.set.now.marks.now) atom c.rules.next c.rules.invariant c.in-Some.rule c.in-Some.is c.args.heads.now c.after-next.result (g.S.RuleSource.lawful source) c.requires.heads (omega arith) c.after-next.ensures.value

  -- past a rule that does not support the atom by lower atoms
  goes_on : supporting (g.S.RuleSource.meaning c.args.set.now.source.now) (lower g.L.Level.below c.args.levels.now.entries.now c.atoms.atom) (marked c.args.set.now.marks.now) c.atoms.atom c.in-Some.rule ≡ false → Walk (g.S.RuleSource.meaning c.args.set.now.source.now) (lower g.L.Level.below c.args.levels.now.entries.now c.atoms.atom) (marked c.args.set.now.marks.now) c.atoms.atom c.after-next.result
  goes_on fails =
      let source = c.args.set.now.source.now in
      let atom = c.atoms.atom in
      walk_goes_on (g.S.RuleSource.meaning source) (lower g.L.Level.below c.args.levels.now.entries.now atom) (marked c.args.set.now.marks.now) atom c.rules.next c.rules.invariant c.in-Some.rule c.in-Some.is c.args.heads.now c.after-next.result (g.S.RuleSource.lawful source) c.requires.heads (omega arith) c.after-next.ensures.value fails

pub rules-smaller-then-not-negative_part_holds : goal.rules-smaller-then-not-negative_part_holds
rules-smaller-then-not-negative_part_holds g c = shortens g (goal.at.rules-smaller-then-not-negative_part_holds g c).After-after-next

pub rules-preserved-then-not-negative_part_holds : goal.rules-preserved-then-not-negative_part_holds
rules-preserved-then-not-negative_part_holds g c =
    goes_on g (goal.at.rules-preserved-then-not-negative_part_holds g c).After-after-next
    (not_by_negative g.L.Level.below (g.S.RuleSource.meaning c.args.set.now.source.now) c.args.set.now.marks.now c.args.levels.now.entries.now c.atoms.atom c.rules.next c.rules.invariant c.in-Some.rule c.in-Some.is (sym c.if-not-is_marked.ensures.value) (sym c.if-not-negative_part_holds.ensures.value))

-- the positive atom that is looked at is not marked, or its level is not lower
not_by_atom : (g : given.Over) (c : In-Some-other g) → under g.L.Level.below c.args.set.now.marks.now c.args.levels.now.entries.now c.atoms.atom c.in-Some-other.other ≡ false → supporting (g.S.RuleSource.meaning c.args.set.now.source.now) (lower g.L.Level.below c.args.levels.now.entries.now c.atoms.atom) (marked c.args.set.now.marks.now) c.atoms.atom c.in-Some.rule ≡ false
not_by_atom g c fails =
    let left = atoms_left g.S.RuleSource.meaning in
    not_by_positive g.L.Level.below (g.S.RuleSource.meaning c.args.set.now.source.now) c.args.set.now.marks.now c.args.levels.now.entries.now c.atoms.atom c.rules.next c.rules.invariant c.in-Some.rule c.in-Some.is (sym c.if-not-is_marked.ensures.value) (left c.positive.other-iterator) c.positive.invariant c.in-Some-other.other (left c.next.new.self) c.in-Some-other.ensures.steps fails

pub rules-smaller-then-not-is_marked-2 : goal.rules-smaller-then-not-is_marked-2
rules-smaller-then-not-is_marked-2 g c = shortens g (goal.at.rules-smaller-then-not-is_marked-2 g c).After-after-next

pub rules-preserved-then-not-is_marked-2 : goal.rules-preserved-then-not-is_marked-2
rules-preserved-then-not-is_marked-2 g c =
    let at = goal.at.rules-preserved-then-not-is_marked-2 g c in
    goes_on g at.After-after-next (not_by_atom g at.In-Some-other (and_left (marked c.args.set.now.marks.now c.in-Some-other.other) (lower g.L.Level.below c.args.levels.now.entries.now c.atoms.atom c.in-Some-other.other) (sym c.if-not-is_marked-2.ensures.value)))

pub rules-smaller : goal.rules-smaller
rules-smaller g c = shortens g (goal.at.rules-smaller g c).After-after-next

pub rules-preserved : goal.rules-preserved
rules-preserved g c =
    let at = goal.at.rules-preserved g c in
    let below = g.L.Level.below in
    let entries = c.args.levels.now.entries.now in
    let high = lower_read below entries c.atoms.atom c.in-Some-other.other false c.level.result c.level-own.result c.if-not-both_below.ensures.value c.level.ensures.value c.level-own.ensures.value in
    goes_on g at.After-after-next (not_by_atom g at.In-Some-other (and_right (marked c.args.set.now.marks.now c.in-Some-other.other) (lower below entries c.atoms.atom c.in-Some-other.other) high))

-- the rule grounds the atom: its negative part holds, and none of its positive atoms is left
grounds : (g : given.Over) (c : In-None g) → ungrounded g.L.Level.below (g.S.RuleSource.meaning c.args.set.now.source.now) (marked c.args.set.now.marks.now) c.args.levels.now.entries.now c.atoms.atom ≡ false
grounds g c =
    let below = g.L.Level.below in
    let source = c.args.set.now.source.now in
    let p = g.S.RuleSource.meaning source in
    let marks = c.args.set.now.marks.now in
    let entries = c.args.levels.now.entries.now in
    let atom = c.atoms.atom in
    let supports = by_rule below p marks entries atom c.rules.next c.rules.invariant c.in-Some.rule c.in-Some.is (sym c.if-not-is_marked.ensures.value) (atoms_left g.S.RuleSource.meaning c.positive.other-iterator) c.positive.invariant c.in-None.ensures.steps.0 (sym c.if-not-negative_part_holds.ensures.value) in
    grounded_passes below p marks entries atom (grounded_by_lowest below p marks entries atom (Some c.in-Some.rule) (walk_finds p (lower below entries atom) (marked marks) atom c.rules.next c.rules.invariant c.in-Some.rule c.in-Some.is supports))

pub atoms-preserved : goal.atoms-preserved
atoms-preserved g c =
    let p = g.S.RuleSource.meaning c.args.set.now.source.now in
    let within : c.atoms.atom ≤ p.atoms = omega (arith, c.atoms-atom-end.ensures.value) in
    sym (lowest_from_more (ungrounded g.L.Level.below p (marked c.args.set.now.marks.now) c.args.levels.now.entries.now) p.atoms c.atoms.atom within (grounds g (goal.at.atoms-preserved g c).In-None)) ∙ c.atoms.invariant

-- the last atom is grounded
pub returns-in-None : goal.returns-in-None
returns-in-None g c =
    let p = g.S.RuleSource.meaning c.args.set.now.source.now in
    let last : c.atoms.atom ≡ p.atoms = omega (arith, c.atoms-atom-end.ensures.value) in
    record { value = sym (lowest_from_last (ungrounded g.L.Level.below p (marked c.args.set.now.marks.now) c.args.levels.now.entries.now) p.atoms c.atoms.atom last (grounds g (goal.at.returns-in-None g c).In-None)) ∙ c.atoms.invariant }

-- no rule of the chain is left
pub returns-in-atoms : goal.returns-in-atoms
returns-in-atoms g c =
    let below = g.L.Level.below in
    let source = c.args.set.now.source.now in
    let p = g.S.RuleSource.meaning source in
    let marks = c.args.set.now.marks.now in
    let entries = c.args.levels.now.entries.now in
    let atom = c.atoms.atom in
    let within : atom ≤ p.atoms = omega (arith, c.atoms-atom-end.ensures.value) in
    let none = grounded_by_lowest below p marks entries atom None (walk_ends p (lower below entries atom) (marked marks) atom c.rules.next c.rules.invariant c.in_default.is) in
    record { value = sym (lowest_from_here (ungrounded below p (marked marks) entries) p.atoms atom within (ungrounded_found below p marks entries atom (sym c.if-not-is_marked.ensures.value) none)) ∙ c.atoms.invariant }
