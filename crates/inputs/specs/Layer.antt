-- Inputs over a program: facts after its rules, and how one more is put. Assumes nothing.
use Rattle.std.specs.Prelude.{ℕ, ◌-◌, Bool, cond, not, ◌&&◌, ◌||◌, List, [], ◌∷◌, ◌++◌, map, length, take, is_ok, None, Ok, Err, filter, Option, Result, nat_le, nat_lt}
use Rattle.std.specs.List.{slice_get}
use Rattle.refusal.specs.declared.Reason.{Reason}
use Rattle.refusal.specs.declared.Reason.TheVariants.{Limit, CallAtom}
use Rattle.refusal.specs.declared.Layer.TheVariants.{Source}
use Rattle.refusal.specs.declared.Refusal.{Refusal}
use Rattle.refusal.specs.Refused.{refused}
use Rattle.rules.specs.Tests.{member}
use Rattle.rules.specs.Program.{Rule, Program, within}

-- the rule whose head is the atom, and whose body is empty
abbrev pub fact : ℕ → Rule
fact a = record { head = a; positive = []; negative = [] }

-- the inputs that are atoms, as facts
abbrev pub facts : ℕ → List ℕ → List Rule
facts n inputs = map fact (filter (within n) inputs)

-- the rules, then the facts, up to the 16,384th
abbrev pub with_inputs : Program → List ℕ → Program
with_inputs p inputs = record { atoms = p.atoms; rules = take 16384 (p.rules ++ facts p.atoms inputs) }

-- the head of a rule that is one of the facts
abbrev pub fact_at : Program → List ℕ → ℕ → Option ℕ
fact_at p inputs rule =
    cond (nat_le rule (length p.rules) || nat_lt 16384 rule)
    None
    (slice_get (filter (within p.atoms) inputs) (rule - length p.rules - 1))

abbrev pub refusal_at : Reason → ℕ → Refusal
refusal_at reason place = refused Source reason place

-- whether an input that is an atom, and not there yet, finds room: first among the inputs, then among the rules
abbrev pub room_checked : Program → List ℕ → Result (Unit {0}) Refusal
room_checked p inputs =
    cond (nat_lt (length inputs) 64)
    (cond (nat_lt (length (with_inputs p inputs).rules) 16384) (Ok tt) (Err (refusal_at Limit 16384)))
    (Err (refusal_at Limit 64))

-- what putting an input answers: one that is there already is accepted
abbrev pub put_answer : Program → List ℕ → ℕ → Result (Unit {0}) Refusal
put_answer p inputs a =
    cond (within p.atoms a)
    (cond (member a inputs) (Ok tt) (room_checked p inputs))
    (Err (refusal_at CallAtom a))

-- putting the input makes the list longer
abbrev pub is_new : Program → List ℕ → ℕ → Bool
is_new p inputs a = is_ok (put_answer p inputs a) && not (member a inputs)

-- the inputs afterwards
abbrev pub inputs_after : Program → List ℕ → ℕ → List ℕ
inputs_after p inputs a = cond (is_new p inputs a) (inputs ++ (a ∷ [])) inputs

-- one more fact after the rules
abbrev pub with_fact : Program → ℕ → Program
with_fact p a = record { atoms = p.atoms; rules = p.rules ++ (fact a ∷ []) }

-- the program afterwards
abbrev pub program_after : Program → List ℕ → ℕ → Program
program_after p inputs a = cond (is_new p inputs a) (with_fact (with_inputs p inputs) a) (with_inputs p inputs)
