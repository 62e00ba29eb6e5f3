-- The marked set of a survey, read from the calls and not from the mark bytes. Assumes nothing.
use Rattle.std.specs.Prelude.{ℕ, Bool, true, false, cond, not, List, [], ◌∷◌, is_ok, Some, None, Option, unwrap_or, ◌==◌, if◌then◌else◌}
use Rattle.rules.specs.Program.{Program}
use Rattle.rules.specs.Stable.{Atoms}
use Rattle.marks.specs.Calls.{named_checked}
use Rattle.session.specs.Run.{Tables, after_call, answer_to}
use Rattle.session.specs.declared.Answer.{Answer}
use Rattle.session.specs.declared.Answer.TheVariants.{Done, Judged, Refuted, Settled}
use Rattle.session.specs.declared.Call.{Call}
use Rattle.session.specs.declared.Call.TheVariants as call
use Rattle.session.specs.declared.Loan.{Loan}

-- a call and its answer
pub record Event (L : Type 0) : Type 0 where
  pub call : Call L
  pub answer : Answer

-- mark, unmark, doubt, level or the asking for a trial was accepted
abbrev pub accepted : Answer → Bool
accepted (Done r) = is_ok r
accepted (Judged r) = false
accepted (Refuted r) = false
accepted (Settled r) = false

-- what is said later, and where that is nothing, what is said earlier
abbrev pub later_else : Option Bool → Option Bool → Option Bool
later_else (Some b) earlier = Some b
later_else None earlier = earlier

module _ {L : Type 0} where
  -- what a call says of the atom a: mark and doubt say that the atom they name is in, unmark that it is out; all others say nothing
  abbrev pub says : Call L → ℕ → Option Bool
  says (call.Mark b) a = cond (a == b) (Some true) None
  says (call.Unmark b) a = cond (a == b) (Some false) None
  says (call.Doubt b) a = cond (a == b) (Some true) None
  says (call.Level b x) a = None
  says (call.Ask q) a = None
  says call.Settle a = None
  says (call.Trial b) a = None

  -- a refused call says nothing
  abbrev pub said : Event L → ℕ → Option Bool
  said e a = cond (accepted e.answer) (says e.call a) None

  -- the last word on the atom a in a list of calls, where there is one
  abbrev pub last_said : List (Event L) → ℕ → Option Bool
  last_said [] a = None
  last_said (e ∷ later) a = later_else (last_said later a) (said e a)

  -- the marked set after a list of calls: by the last word on each atom, and where there is none, by what making marked
  abbrev pub marked_by : Atoms → List (Event L) → Atoms
  marked_by start events a = unwrap_or (last_said events a) (start a)

-- the set with the atom a out where it is in, and in where it is out
abbrev pub reversed : Atoms → ℕ → Atoms
reversed set a b = cond (b == a) (not (set a)) (set b)

module _ {L : Type 0} (below : L → L → Bool) (count : ℕ) (rung : ℕ → L) (p : Program) where
  -- the calls of a list, each with its answer
  abbrev pub events_of : Tables L → List (Call L) → List Loan → List (Event L)
  events_of t [] loans = []
  events_of t (c ∷ calls) [] = []
  events_of t (c ∷ calls) (k ∷ loans) = record { call = c; answer = answer_to below count rung p t k.rounds.now c } ∷ events_of (after_call below count rung p t k.rounds.now c) calls loans

  -- the marked set while a trial of the atom a is open: reversed for the atom, where the trial turned it
  abbrev pub set_inside : Atoms → Tables L → ℕ → Atoms
  set_inside set t a = if is_ok (named_checked p.atoms t.marks a) then reversed set a else set
