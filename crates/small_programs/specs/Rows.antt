-- Two small programs, and rows that are worked out over them: calls on tables, and what is expected of each. Assumes nothing.
use Rattle.std.specs.Prelude.{◌≡◌, ℕ, List, [], ◌∷◌, ◌++◌, map, Some, None, Ok, Option}
use Rattle.rules.specs.Program.{Program, Rule}
use Rattle.orders.specs.Numbers.{less, number, number_rungs}
use Rattle.orders.specs.Routes.{inside, route, route_rung, route_rungs}
use Rattle.orders.specs.declared.numbers.Number.{Number}
use Rattle.orders.specs.declared.routes.Route.{Route}
use Rattle.verdict.specs.declared.Verdict.{Verdict}
use Rattle.verdict.specs.declared.Verdict.TheVariants as verdict
use Rattle.refutation.specs.declared.Refutation.{Refutation}
use Rattle.refutation.specs.declared.Refutation.TheVariants as refutation
use Rattle.settlement.specs.declared.Settlement.{Settlement}
use Rattle.settlement.specs.declared.Settlement.TheVariants as settlement
use Rattle.session.specs.Run.{Held, Tables, held, performed}
use Rattle.session.specs.declared.Answer.TheVariants.{Judged, Refuted, Settled}
use Rattle.session.specs.declared.Call.{Call}
use Rattle.session.specs.declared.Call.TheVariants.{Ask, Settle}
use Rattle.session.specs.declared.Question.TheVariants.{Judge, Refute}
use Rattle.session.specs.declared.Loan.{Loan}

-- THE PROGRAMS

-- 2 ← 3. 3 ← 2. 2 ← 1, not 4
abbrev pub pair_rules : List Rule
pair_rules =
    record { head = 2; positive = 3 ∷ []; negative = [] }
    ∷ record { head = 3; positive = 2 ∷ []; negative = [] }
    ∷ record { head = 2; positive = 1 ∷ []; negative = 4 ∷ [] }
    ∷ []

-- the atoms 2 and 3 support each other, and rule 3 supports 2 by the fact 1 where 4 is out
abbrev pub supported_pair : Program
supported_pair = record { atoms = 4; rules = pair_rules ++ record { head = 1; positive = []; negative = [] } ∷ [] }

-- the same without the fact: where 1 is out, the atoms 2 and 3 have only each other
abbrev pub unfounded_pair : Program
unfounded_pair = record { atoms = 4; rules = pair_rules }

-- WHAT A ROW IS

-- a case: calls on tables over a program, and what each call is lent
pub record Case (L : Type 0) : Type 0 where
  pub program : Program
  pub tables : Tables L
  pub calls : List (Call L)
  pub lent : List Held

-- what the loans hold at first, what they hold after the calls, and what is expected of that
pub record Row : Type 0 where
  pub lent : List Held
  pub found : List Loan → List Held
  pub expected : List Held

-- the row of a case where levels are numbers
abbrev pub by_numbers : Case Number → List Held → Row
by_numbers c expected = record { lent = c.lent; found = performed less number_rungs number c.program c.tables c.calls; expected = expected }

-- the row of a case where levels are routes
abbrev pub by_routes : Case Route → List Held → Row
by_routes c expected = record { lent = c.lent; found = performed inside route_rungs route_rung c.program c.tables c.calls; expected = expected }

-- THE STATEMENT OF A ROW: loans that hold at first what it lends hold after its calls what is expected
abbrev pub Stands : Row → Type 0
Stands r = (loans : List Loan) → map held loans ≡ r.lent → r.found loans ≡ r.expected

-- LOANS AND ANSWERS

-- a call that is lent no tables
abbrev pub nothing_lent : Held
nothing_lent = record { answer = None; rounds = []; inside = [] }

-- a round table is lent, with something in it
abbrev pub old_rounds : Held
old_rounds = record { answer = None; rounds = 9 ∷ 9 ∷ 9 ∷ 9 ∷ []; inside = [] }

abbrev pub judge_answers : Verdict → Held
judge_answers v = record nothing_lent { answer = Some (Judged (Ok v)) }

abbrev pub refute_answers : Refutation → Held
refute_answers v = record nothing_lent { answer = Some (Refuted (Ok v)) }

-- settle's answer, and the round table that it leaves
abbrev pub settle_answers : Settlement → List ℕ → Held
settle_answers s rounds = record { answer = Some (Settled (Ok s)); rounds = rounds; inside = [] }

-- THE CASES

-- judge is asked
abbrev pub judging : {L : Type 0} → Program → List ℕ → List (Option L) → Case L
judging p marks entries = record { program = p; tables = record { marks = marks; entries = entries }; calls = Ask Judge ∷ []; lent = nothing_lent ∷ [] }

abbrev pub no_levels : {L : Type 0} → List (Option L)
no_levels = None ∷ None ∷ None ∷ None ∷ []

-- atoms 1, 2 and 3
abbrev pub one_to_three : List ℕ
one_to_three = 1 ∷ 1 ∷ 1 ∷ 0 ∷ []

-- atoms 2 and 3
abbrev pub two_and_three : List ℕ
two_and_three = 0 ∷ 1 ∷ 1 ∷ 0 ∷ []

-- the numbers 1, 2 and 3
abbrev pub ascending_numbers : Case Number
ascending_numbers = judging supported_pair one_to_three (Some (number 1) ∷ Some (number 2) ∷ Some (number 3) ∷ None ∷ [])

-- the numbers 1, 2 and 2
abbrev pub equal_numbers : Case Number
equal_numbers = judging supported_pair one_to_three (Some (number 1) ∷ Some (number 2) ∷ Some (number 2) ∷ None ∷ [])

-- atom 1 alone, with the number 1
abbrev pub head_left_out : Case Number
head_left_out = judging supported_pair (1 ∷ 0 ∷ 0 ∷ 0 ∷ []) (Some (number 1) ∷ None ∷ None ∷ None ∷ [])

-- the numbers 5 and 4294967295, the highest
abbrev pub highest_number : Case Number
highest_number = judging unfounded_pair two_and_three (None ∷ Some (number 5) ∷ Some (number 4294967295) ∷ None ∷ [])

-- no levels
abbrev pub no_numbers : Case Number
no_numbers = judging unfounded_pair two_and_three no_levels

-- the routes 0, 1 and 2: neither of the last two is inside the other
abbrev pub routes_apart : Case Route
routes_apart = judging supported_pair one_to_three (Some (route 0) ∷ Some (route 1) ∷ Some (route 2) ∷ None ∷ [])

-- settle, where a ranking exists
abbrev pub settling : Case Number
settling = record { program = supported_pair; tables = record { marks = one_to_three; entries = no_levels }; calls = Settle ∷ []; lent = old_rounds ∷ [] }

-- settle, where none exists, and then refute
abbrev pub settling_a_loop : Case Number
settling_a_loop = record { program = unfounded_pair; tables = record { marks = two_and_three; entries = no_levels }; calls = Settle ∷ Ask Refute ∷ []; lent = old_rounds ∷ nothing_lent ∷ [] }

-- refute, where atoms 2 and 3 are in and only 2 is doubted
abbrev pub half_doubted : Case Number
half_doubted = record { program = unfounded_pair; tables = record { marks = 0 ∷ 2 ∷ 1 ∷ 0 ∷ []; entries = no_levels }; calls = Ask Refute ∷ []; lent = nothing_lent ∷ [] }

-- THE ROWS

abbrev pub worked_rows : List Row
worked_rows =
    by_numbers ascending_numbers (judge_answers (verdict.Accepted 3) ∷ [])
    ∷ by_numbers equal_numbers (judge_answers (verdict.Ungrounded 3) ∷ [])
    ∷ by_numbers head_left_out (judge_answers (verdict.Broken 3) ∷ [])
    ∷ by_numbers highest_number (judge_answers (verdict.Ungrounded 2) ∷ [])
    ∷ by_numbers no_numbers (judge_answers (verdict.Unlevelled 2) ∷ [])
    ∷ by_routes routes_apart (judge_answers (verdict.Ungrounded 3) ∷ [])
    ∷ by_numbers settling (settle_answers (settlement.Ranked 3) (1 ∷ 2 ∷ 3 ∷ 0 ∷ []) ∷ [])
    ∷ by_numbers settling_a_loop (settle_answers (settlement.Looped 2) (0 ∷ 0 ∷ 0 ∷ 0 ∷ []) ∷ refute_answers (refutation.Accepted 2) ∷ [])
    ∷ by_numbers half_doubted (refute_answers (refutation.Escaped (record { atom = 2; rule = 1 })) ∷ [])
    ∷ []
