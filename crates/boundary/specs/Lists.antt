-- How a list of calls crosses to C. Assumes nothing.
use Rattle.std.specs.Prelude.{◌≡◌, ℕ, Bool, true, false, cond, List, [], length, map, Ok, Err, Result, ◌==◌, ◌⊎◌}
use Rattle.std.specs.List.{flat_map}
use Rattle.refusal.specs.declared.Refusal.{Refusal}
use Rattle.rules.specs.Program.{Program}
use Rattle.orders.specs.Numbers.{less, number, number_from, number_kind, number_rungs, number_width}
use Rattle.orders.specs.Routes.{inside, route_from, route_kind, route_rung, route_rungs, route_width}
use Rattle.survey.specs.Making.{claims_for, claims_or_none}
use Rattle.session.specs.Made.{made_tables}
use Rattle.session.specs.Run.{Tables, after_all, held, performed}
use Rattle.session.specs.declared.Loan.{Loan}
use Rattle.boundary.specs.Entries.{entry_for, number_for, number_told, route_for, route_told, stored_for}
use Rattle.boundary.specs.Answers.{maybe_told, refusal_told, worded}
use Rattle.boundary.specs.Lendings.{ask_told, lendings_of, over}
use Rattle.boundary.specs.declared.answers.Told.{Told}
use Rattle.boundary.specs.declared.entries.Stored.{Stored}
use Rattle.session.specs.declared.Call.{Call}
use Rattle.session.specs.declared.Call.TheVariants as call
use Rattle.session.specs.declared.Question.TheVariants.{Judge, Refute}
use Rattle.boundary.specs.declared.list.AskCode.{AskCode}
use Rattle.boundary.specs.declared.list.CallCode.{CallCode}
use Rattle.boundary.specs.declared.list.List.{List as Lent}

-- the call of a code; a word without a meaning is settle
abbrev pub call_for : {L : Type 0} → (ℕ → L) → CallCode → Call L
call_for level c =
    cond (c.word == 1) (call.Mark c.atom)
    (cond (c.word == 2) (call.Unmark c.atom)
    (cond (c.word == 3) (call.Doubt c.atom)
    (cond (c.word == 4) (call.Level c.atom (level c.level))
    (cond (c.word == 5) (call.Ask Judge)
    (cond (c.word == 6) (call.Ask Refute)
    (cond (c.word == 8) (call.Trial c.atom)
    call.Settle))))))

-- how the tables are on which a list begins: 0 for as they are, 1 for a making with nothing marked, and else one from the certificate, where it is not refused
abbrev pub made_for : {L : Type 0} → ℕ → (List ℕ → L) → ℕ → ℕ → ℕ → List ℕ → Tables L → Tables L
made_for width decode kind n making certificate t =
    cond (making == 0) t
    (made_tables (length t.marks) (length t.entries) (cond (making == 1) [] (claims_or_none (claims_for width decode n kind (length t.marks) (length t.entries) certificate))))

-- the tables that cross
abbrev pub crossing : {L : Type 0} → (ℕ → L) → List ℕ → List Stored → Tables L
crossing level marks stored = record { marks = marks; entries = map (entry_for level) stored }

-- what crosses beside the codes, before a list of calls or after it
pub record Crossed : Type 0 where
  pub marks : List ℕ
  pub stored : List Stored
  pub rounds : List ℕ
  pub asks : List AskCode
  pub answers : List Told

-- the tables, and what a list of calls crosses with
abbrev pub crossed : List ℕ → List Stored → Lent → Crossed
crossed marks stored list = record { marks = marks; stored = stored; rounds = list.rounds.now; asks = list.asks.now; answers = list.answers.now }

module _ {L : Type 0} (below : L → L → Bool) (count : ℕ) (rung : ℕ → L) (level : ℕ → L) (number : L → ℕ) (p : Program) where
  -- what is handed back after calls that were lent these loans: the two tables, the round tables and the questions of all calls, one call's after another's, and the answer to each call
  abbrev pub handed_back : Tables L → List (Call L) → List Loan → Crossed → Crossed
  handed_back t calls loans before = record {
    marks = (after_all below count rung p t calls loans).marks;
    stored = map (stored_for number) (after_all below count rung p t calls loans).entries;
    rounds = over (flat_map (λ h. h.rounds) (performed below count rung p t calls loans)) before.rounds;
    asks = over (flat_map (λ h. map ask_told h.inside) (performed below count rung p t calls loans)) before.asks;
    answers = over (map (λ h. maybe_told h.answer) (performed below count rung p t calls loans)) before.answers;
  }

  -- what is there after the calls of the codes, on loans that hold what the codes say that they are lent
  abbrev pub AfterCalls : Tables L → List CallCode → Crossed → Crossed → Type 0
  AfterCalls t codes before after = ∥ ((loans : List Loan) × ((map held loans ≡ lendings_of codes before.rounds before.asks) × (after ≡ handed_back t (map (call_for level) codes) loans before))) ∥₁

-- what is there after a list of calls, by routes or by numbers
abbrev pub AfterKind : Bool → Program → ℕ → List ℕ → List CallCode → Crossed → Crossed → Type 0
AfterKind true p making certificate codes before after =
    AfterCalls inside route_rungs route_rung route_for route_told p (made_for route_width route_from route_kind p.atoms making certificate (crossing route_for before.marks before.stored)) codes before after
AfterKind false p making certificate codes before after =
    AfterCalls less number_rungs number number_for number_told p (made_for number_width number_from number_kind p.atoms making certificate (crossing number_for before.marks before.stored)) codes before after

-- what is told of a list of calls, and what it leaves: a refusal, or that memory failed, and all is as it was; or else all was performed. When memory fails is open
abbrev pub Listed : Result Program Refusal → Bool → ℕ → List ℕ → List CallCode → Crossed → Crossed → Told → Type 0
Listed (Err e) routes making certificate codes before after told = (told ≡ refusal_told e) × (after ≡ before)
Listed (Ok p) routes making certificate codes before after told = ((told ≡ worded 12 0) × (after ≡ before)) ⊎ ((told ≡ worded 1 (length codes)) × AfterKind routes p making certificate codes before after)
