-- The first rule of the chain that passes is the lowest.
use Rattle.std.proofs.Common.{not, sym}
use Rattle.marks.specs.Marks.{doubted, marked}
use Rattle.support.proofs.Walk.{walk_begins, walk_ends, walk_finds, walk_goes_on, walk_shortens}
use Rattle.refutation.proofs.freeing_rule.Goals as goal

pub rules-init : goal.rules-init
rules-init g c =
    let source = c.args.set.now.source.now in
    let marks = c.args.set.now.marks.now in
    walk_begins (g.S.RuleSource.meaning source) (λ b. not (doubted marks b)) (marked marks) c.args.atom c.args.heads.now c.first-next.result (g.S.RuleSource.lawful source) c.requires.heads c.requires.first c.requires.last c.first-next.ensures.value

pub rules-smaller : goal.rules-smaller
rules-smaller g c =
    let source = c.args.set.now.source.now in
    let marks = c.args.set.now.marks.now in
    walk_shortens (g.S.RuleSource.meaning source) (λ b. not (doubted marks b)) (marked marks) c.args.atom c.rules.next c.rules.invariant c.in-Some.rule c.in-Some.is c.args.heads.now c.after-next.result (g.S.RuleSource.lawful source) c.requires.heads c.requires.first c.after-next.ensures.value

pub rules-preserved : goal.rules-preserved
rules-preserved g c =
    let source = c.args.set.now.source.now in
    let marks = c.args.set.now.marks.now in
    walk_goes_on (g.S.RuleSource.meaning source) (λ b. not (doubted marks b)) (marked marks) c.args.atom c.rules.next c.rules.invariant c.in-Some.rule c.in-Some.is c.args.heads.now c.after-next.result (g.S.RuleSource.lawful source) c.requires.heads c.requires.first c.after-next.ensures.value (sym c.if-frees.ensures.value)

pub returns-then-frees : goal.returns-then-frees
returns-then-frees g c =
    let marks = c.args.set.now.marks.now in
    record { value = sym (walk_finds (g.S.RuleSource.meaning c.args.set.now.source.now) (λ b. not (doubted marks b)) (marked marks) c.args.atom c.rules.next c.rules.invariant c.in-Some.rule c.in-Some.is (sym c.if-frees.ensures.value)) }

pub returns : goal.returns
returns g c =
    let marks = c.args.set.now.marks.now in
    record { value = sym (walk_ends (g.S.RuleSource.meaning c.args.set.now.source.now) (λ b. not (doubted marks b)) (marked marks) c.args.atom c.rules.next c.rules.invariant c.in_default.is) }
