-- What is answered for a program file that is written again with inputs over it, and what the output then holds. Assumes nothing.
use Rattle.std.specs.Prelude.{ℕ, List, [], ◌∷◌, length, Ok, Err, Result}
use Rattle.refusal.specs.declared.Refusal.{Refusal}
use Rattle.rules.specs.Program.{Program}
use Rattle.program.specs.Reading.{program_in}
use Rattle.inputs.specs.Layer.{inputs_after, put_answer, with_inputs}
use Rattle.writer.specs.Writing.{output_after, write_answer}
use Rattle.boundary.specs.Answers.{refusal_told, worded}
use Rattle.boundary.specs.declared.answers.Told.{Told}

-- the inputs that are left where one was put or refused
abbrev pub put_left : Result (Unit {0}) Refusal → List ℕ → Result (List ℕ) Refusal
put_left (Ok u) inputs = Ok inputs
put_left (Err e) inputs = Err e

-- what follows where one was put, and else its refusal
abbrev pub next_put : Result (Unit {0}) Refusal → Result (List ℕ) Refusal → Result (List ℕ) Refusal
next_put (Ok u) following = following
next_put (Err e) following = Err e

-- the inputs after atoms were put in turn; the first refusal ends it
abbrev pub inputs_put : Program → List ℕ → List ℕ → Result (List ℕ) Refusal
inputs_put p inputs [] = Ok inputs
inputs_put p inputs (a ∷ atoms) = next_put (put_answer p inputs a) (inputs_put p (inputs_after p inputs a) atoms)

-- the size of what was written
abbrev pub size_told : Result ℕ Refusal → Told
size_told (Ok size) = worded 1 size
size_told (Err e) = refusal_told e

-- the answer, and the output afterwards
pub record Copied : Type 0 where
  pub answer : Told
  pub out : List ℕ

-- for a program, with inputs that may be refused
abbrev pub written : Program → List ℕ → Result (List ℕ) Refusal → Copied
written p out (Ok inputs) = record { answer = size_told (write_answer (with_inputs p inputs) (length out)); out = output_after (with_inputs p inputs) out }
written p out (Err e) = record { answer = refusal_told e; out = out }

-- for a program that may be refused
abbrev pub copied_by : List ℕ → List ℕ → Result Program Refusal → Copied
copied_by atoms out (Ok p) = written p out (inputs_put p [] atoms)
copied_by atoms out (Err e) = record { answer = refusal_told e; out = out }

-- for a program file
abbrev pub copied : List ℕ → List ℕ → List ℕ → Copied
copied program atoms out = copied_by atoms out (program_in program)
