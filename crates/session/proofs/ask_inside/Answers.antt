-- One question more is answered, and the trial is the tables' own when it ends.
use Rattle.std.proofs.Common.{ℕ, List, set, get_or, map, Some, None, ap, ◌∙◌}
use Rattle.session.specs.Run.{Tables, asked, told}
use Rattle.session.specs.declared.Answer.{Answer}
use Rattle.session.specs.declared.Ask.{Ask}
use Rattle.session.specs.declared.Question.TheVariants.{Judge}
use Rattle.session.proofs.Walked.{walked, walked_all, walked_at, walked_next}
use Rattle.session.proofs.ask_inside.Goals as goal

pub asks-preserved : goal.asks-preserved
asks-preserved g c =
    let level = g.L.Level in
    let p = g.S.RuleSource.meaning c.args.source.now in
    let inside : Tables g.row.L.Denot = record { marks = c.open-trial.result.marks.now; entries = c.args.levels.now.entries.now } in
    let answered = asked level.below level.RUNGS level.rung p inside in
    let asks = c.args.asks.now in
    let at = c.asks.ask-index in
    let unasked : Ask = record { question = Judge; answer = None } in
    let here = get_or c.asks.asks at unasked in
    let put : Answer → Ask = λ x. record { question = here.question; answer = Some x } in
    let read = ap (λ m. told level.below level.RUNGS level.rung p (record { marks = m; entries = c.args.levels.now.entries.now }) here.question) c.marks.ensures.value in
    ap (set c.asks.asks at) (ap put (c.tell.ensures.value ∙ read))
    ∙ ap (λ xs. set xs at (answered (get_or xs at unasked))) c.asks.invariant
    ∙ ap (λ k. set (walked answered at asks) at (answered k)) (walked_at answered at asks unasked)
    ∙ walked_next answered at asks unasked c.asks-test.true

pub returns-clause-inside : goal.returns-clause-inside
returns-clause-inside g c =
    let level = g.L.Level in
    let p = g.S.RuleSource.meaning c.args.source.now in
    let on : List ℕ → List Ask = λ m. map (asked level.below level.RUNGS level.rung p (record { marks = m; entries = c.args.levels.now.entries.now })) c.args.asks.now in
    let inside : Tables g.row.L.Denot = record { marks = c.open-trial.result.marks.now; entries = c.args.levels.now.entries.now } in
    c.asks.invariant
    ∙ walked_all (asked level.below level.RUNGS level.rung p inside) c.asks.ask-index c.args.asks.now c.asks-test.false
    ∙ ap on c.open-trial.ensures.value
