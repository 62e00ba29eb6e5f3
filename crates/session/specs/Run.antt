-- What a list of calls answers, and what it leaves in the tables: each call works on what the last one left. Assumes nothing.
use Rattle.std.specs.Prelude.{ℕ, Bool, List, [], ◌∷◌, length, map, Some, Option}
use Rattle.std.specs.Borrow.{GName}
use Rattle.rules.specs.Program.{Program}
use Rattle.marks.specs.Calls.{named_checked, doubt_checked, after_mark, after_unmark, after_doubt}
use Rattle.refutation.specs.Refute.{refuted}
use Rattle.settlement.specs.Settle.{settled}
use Rattle.survey.specs.Levelling.{level_checked, after_level}
use Rattle.trial.specs.Trial.{turned_marks}
use Rattle.verdict.specs.Judge.{judged}
use Rattle.session.specs.declared.Answer.{Answer}
use Rattle.session.specs.declared.Answer.TheVariants.{Done, Judged, Refuted, Settled}
use Rattle.session.specs.declared.Ask.{Ask}
use Rattle.session.specs.declared.Call.{Call}
use Rattle.session.specs.declared.Call.TheVariants as call
use Rattle.session.specs.declared.Question.{Question}
use Rattle.session.specs.declared.Question.TheVariants.{Judge, Refute}
use Rattle.session.specs.declared.Loan.{Loan}

-- the two tables of a survey
pub record Tables (L : Type 0) : Type 0 where
  pub marks : List ℕ
  pub entries : List (Option L)

-- what a loan holds: the answer to its call, a round table, and questions
pub record Held : Type 0 where
  pub answer : Option Answer
  pub rounds : List ℕ
  pub inside : List Ask

abbrev pub held : Loan → Held
held k = record { answer = k.answer; rounds = k.rounds.now; inside = k.inside.now }

-- the names of what a loan lends
abbrev pub names : Loan → GName × GName
names k = (k.rounds.ghost_name, k.inside.ghost_name)

module _ {L : Type 0} (below : L → L → Bool) (count : ℕ) (rung : ℕ → L) (p : Program) where
  -- what a question is answered on these tables
  abbrev pub told : Tables L → Question → Answer
  told t Judge = Judged (judged below p t.marks t.entries)
  told t Refute = Refuted (refuted p t.marks)

  -- the tables while a trial of the atom a is open
  abbrev pub tried : Tables L → ℕ → Tables L
  tried t a = record { marks = turned_marks p.atoms t.marks a; entries = t.entries }

  -- what a call answers that is lent the round table
  abbrev pub answer_to : Tables L → List ℕ → Call L → Answer
  answer_to t rounds (call.Mark a) = Done (named_checked p.atoms t.marks a)
  answer_to t rounds (call.Unmark a) = Done (named_checked p.atoms t.marks a)
  answer_to t rounds (call.Doubt a) = Done (doubt_checked p.atoms t.marks a)
  answer_to t rounds (call.Level a x) = Done (level_checked p.atoms (length t.entries) a)
  answer_to t rounds (call.Ask q) = told t q
  answer_to t rounds call.Settle = Settled (settled count rung p t.marks t.entries rounds).answer
  answer_to t rounds (call.Trial a) = Done (named_checked p.atoms t.marks a)

  -- the two tables after a call that is lent the round table
  abbrev pub after_call : Tables L → List ℕ → Call L → Tables L
  after_call t rounds (call.Mark a) = record { marks = after_mark p.atoms t.marks a; entries = t.entries }
  after_call t rounds (call.Unmark a) = record { marks = after_unmark p.atoms t.marks a; entries = t.entries }
  after_call t rounds (call.Doubt a) = record { marks = after_doubt p.atoms t.marks a; entries = t.entries }
  after_call t rounds (call.Level a x) = record { marks = t.marks; entries = after_level p.atoms t.entries a x }
  after_call t rounds (call.Ask q) = t
  after_call t rounds call.Settle = record { marks = (settled count rung p t.marks t.entries rounds).marks; entries = (settled count rung p t.marks t.entries rounds).entries }
  after_call t rounds (call.Trial a) = t

  -- the round table after a call that is lent it
  abbrev pub rounds_after : Tables L → List ℕ → Call L → List ℕ
  rounds_after t rounds (call.Mark a) = rounds
  rounds_after t rounds (call.Unmark a) = rounds
  rounds_after t rounds (call.Doubt a) = rounds
  rounds_after t rounds (call.Level a x) = rounds
  rounds_after t rounds (call.Ask q) = rounds
  rounds_after t rounds call.Settle = (settled count rung p t.marks t.entries rounds).rounds
  rounds_after t rounds (call.Trial a) = rounds

  -- a question with its answer on these tables
  abbrev pub asked : Tables L → Ask → Ask
  asked t k = record { question = k.question; answer = Some (told t k.question) }

  -- the questions of a call: a trial answers them while it is open
  abbrev pub asked_in : Tables L → List Ask → Call L → List Ask
  asked_in t asks (call.Mark a) = asks
  asked_in t asks (call.Unmark a) = asks
  asked_in t asks (call.Doubt a) = asks
  asked_in t asks (call.Level a x) = asks
  asked_in t asks (call.Ask q) = asks
  asked_in t asks call.Settle = asks
  asked_in t asks (call.Trial a) = map (asked (tried t a)) asks

  -- the tables after a list of calls, each with its loan
  abbrev pub after_all : Tables L → List (Call L) → List Loan → Tables L
  after_all t [] loans = t
  after_all t (c ∷ calls) [] = t
  after_all t (c ∷ calls) (k ∷ loans) = after_all (after_call t k.rounds.now c) calls loans

  -- what a loan holds after the call that it is for
  abbrev pub after_loan : Tables L → Call L → Loan → Held
  after_loan t c k = record { answer = Some (answer_to t k.rounds.now c); rounds = rounds_after t k.rounds.now c; inside = asked_in t k.inside.now c }

  -- what the loans hold after a list of calls; a loan past the last call stays as it is
  abbrev pub performed : Tables L → List (Call L) → List Loan → List Held
  performed t [] loans = map held loans
  performed t (c ∷ calls) [] = []
  performed t (c ∷ calls) (k ∷ loans) = after_loan t c k ∷ performed (after_call t k.rounds.now c) calls loans
