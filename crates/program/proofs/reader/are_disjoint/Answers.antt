-- A turn compares the first atoms, and passes the smaller one.
use Rattle.std.proofs.Common.{◌≡◌, ◌<◌, sym, ◌∙◌, arith, rules}
use Rattle.program.proofs.Walks.{here}
use Rattle.program.proofs.Disjoint.{apart_no_right, apart_same, apart_less, apart_more}
use Rattle.program.proofs.reader.are_disjoint.Goals as goal

pub returns-in_default-other : goal.returns-in_default-other
returns-in_default-other c = record { value = apart_no_right c.loop-one.one.now c.loop-one.other.now _ c.loop-one.invariant (search rules) }

pub returns-then-first-second : goal.returns-then-first-second
returns-then-first-second c =
    let same : here c.loop-one.one.now ≡ here c.loop-one.other.now = sym c.word-first.ensures.value ∙ (c.if-first-second.true ∙ c.word-second.ensures.value) in
    record { value = apart_same c.loop-one.one.now c.loop-one.other.now _ c.loop-one.invariant (search rules) (search rules) same }

pub loop-one-preserved-then-first-second-2 : goal.loop-one-preserved-then-first-second-2
loop-one-preserved-then-first-second-2 c =
    let less : here c.loop-one.one.now < here c.loop-one.other.now = omega (arith, c.word-first.ensures.value, c.word-second.ensures.value, c.if-first-second-2.true) in
    apart_less c.loop-one.one.now c.loop-one.other.now _ c.loop-one.invariant (search rules) (search rules) less

pub loop-one-preserved : goal.loop-one-preserved
loop-one-preserved c =
    let more : here c.loop-one.other.now < here c.loop-one.one.now = omega (arith, c.word-first.ensures.value, c.word-second.ensures.value, c.if-first-second.false, c.if-first-second-2.false) in
    apart_more c.loop-one.one.now c.loop-one.other.now _ c.loop-one.invariant (search rules) (search rules) more
