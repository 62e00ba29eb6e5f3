-- One call more is performed.
use Rattle.std.proofs.Common.{◌≡◌, ℕ, ◌<◌, ◌≤◌, List, [], length, map, get_or, Some, None, Option, sym, ap, ◌∙◌, arith}
use Rattle.std.proofs.lemmas.Bool.{ltb-false, ltb-true}
use Rattle.std.proofs.lemmas.Option.{slice_get-get_or, slice_get_past}
use Rattle.std.specs.List.{slice_get}
use Rattle.std.proofs.Math.Seq.{map-set_same}
use Rattle.std.proofs.lemmas.List.{set-get_or}
use Rattle.session.specs.Run.{Tables, after_call, held, names}
use Rattle.session.specs.declared.Loan.{Loan}
use Rattle.session.proofs.Performing.{all_held, all_performed, no_more_held, one_more, one_more_held}
use Rattle.session.proofs.perform.Goals as goal

abbrev nothing : Loan
nothing = record { rounds = record { ref_ptr = (0, 0); ghost_name = 0; now = [] }; inside = record { ref_ptr = (0, 0); ghost_name = 0; now = [] }; answer = None }

tables_same : {L : Type 0} {t u : Tables L} → t.marks ≡ u.marks → t.entries ≡ u.entries → t ≡ u
tables_same {L} {t} {u} m e =
    let by_marks : List ℕ → Tables L = λ x. record { marks = x; entries = t.entries } in
    let by_entries : List (Option L) → Tables L = λ x. record { marks = u.marks; entries = x } in
    ap by_marks m ∙ ap by_entries e

pub calls-preserved : goal.calls-preserved
calls-preserved g c =
    let level = g.L.Level in
    let p = g.S.RuleSource.meaning c.args.source.now in
    let now : Tables g.row.L.Denot = record { marks = c.calls.marks; entries = c.calls.levels.entries.now } in
    let next : Tables g.row.L.Denot = record { marks = c.perform_one.new.marks; entries = c.perform_one.new.levels.entries.now } in
    let calls = c.args.calls.now in
    let loans = c.calls.loans in
    let at = c.calls.at in
    let call = c.in-Some.call.now in
    let loan = c.perform_one.new.loan in
    let found = c.in-Some.ensures.lookup in
    let there : slice_get calls at ≡ Some call = slice_get-get_or calls at call (ltb-true at (length calls) (sym found.0)) ∙ ap Some (sym found.1) in
    let tables : next ≡ after_call level.below level.RUNGS level.rung p now (get_or loans at nothing).rounds.now call =
    tables_same c.perform_one.ensures.marks c.perform_one.ensures.entries in
    let within : at < length loans = omega (arith, c.calls-test.true, c.calls.auto.loans) in (
      one_more level.below level.RUNGS level.rung p now calls loans at call loan nothing next there within tables ∙ c.calls.invariant.0,
      one_more_held level.below level.RUNGS level.rung p now calls loans at call loan nothing next there within tables c.perform_one.ensures.loan ∙ c.calls.invariant.1,
      c.perform_one.ensures.named ∙ c.calls.invariant.2,
      map-set_same names loans at loan nothing c.perform_one.ensures.loan_named ∙ c.calls.invariant.3,
    )

pub returns-after-calls-clause-marks : goal.returns-after-calls-clause-marks
returns-after-calls-clause-marks g c =
    let level = g.L.Level in
    let p = g.S.RuleSource.meaning c.args.source.now in
    let now : Tables g.row.L.Denot = record { marks = c.calls.marks; entries = c.calls.levels.entries.now } in
    let past : length c.calls.loans ≤ c.calls.at = omega (arith, c.calls-test.false, c.calls.auto.loans) in
    ap (λ t. t.marks) (sym (all_performed level.below level.RUNGS level.rung p now c.args.calls.now c.calls.loans c.calls.at past) ∙ c.calls.invariant.0)

pub returns-after-calls-clause-entries : goal.returns-after-calls-clause-entries
returns-after-calls-clause-entries g c =
    let level = g.L.Level in
    let p = g.S.RuleSource.meaning c.args.source.now in
    let now : Tables g.row.L.Denot = record { marks = c.calls.marks; entries = c.calls.levels.entries.now } in
    let past : length c.calls.loans ≤ c.calls.at = omega (arith, c.calls-test.false, c.calls.auto.loans) in
    ap (λ t. t.entries) (sym (all_performed level.below level.RUNGS level.rung p now c.args.calls.now c.calls.loans c.calls.at past) ∙ c.calls.invariant.0)

pub returns-after-calls-clause-loans : goal.returns-after-calls-clause-loans
returns-after-calls-clause-loans g c =
    let level = g.L.Level in
    let p = g.S.RuleSource.meaning c.args.source.now in
    let now : Tables g.row.L.Denot = record { marks = c.calls.marks; entries = c.calls.levels.entries.now } in
    let past : length c.calls.loans ≤ c.calls.at = omega (arith, c.calls-test.false, c.calls.auto.loans) in
    sym (all_held level.below level.RUNGS level.rung p now c.args.calls.now c.calls.loans c.calls.at past) ∙ c.calls.invariant.1

pub returns-in_default-clause-loans : goal.returns-in_default-clause-loans
returns-in_default-clause-loans g c =
    let level = g.L.Level in
    let p = g.S.RuleSource.meaning c.args.source.now in
    let now : Tables g.row.L.Denot = record { marks = c.calls.marks; entries = c.calls.levels.entries.now } in
    let past = c.in_default.ensures.lookup in
    let none : slice_get c.args.calls.now c.calls.at ≡ None = slice_get_past c.args.calls.now c.calls.at (ltb-false c.calls.at (length c.args.calls.now) (sym past.0)) in
    ap (map held) (set-get_or c.calls.loans c.calls.at nothing) ∙ sym (no_more_held level.below level.RUNGS level.rung p now c.args.calls.now c.calls.loans c.calls.at none) ∙ c.calls.invariant.1
