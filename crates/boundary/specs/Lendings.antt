-- What each call of a list is lent that crosses, and how it is handed back. Assumes nothing.
use Rattle.std.specs.Prelude.{ℕ, Bool, true, false, cond, List, [], ◌∷◌, None, drop, length, map, nat_le, take}
use Rattle.session.specs.Run.{Held}
use Rattle.session.specs.declared.Ask.{Ask}
use Rattle.session.specs.declared.Question.{Question}
use Rattle.session.specs.declared.Question.TheVariants.{Judge, Refute}
use Rattle.boundary.specs.Answers.{maybe_told}
use Rattle.boundary.specs.declared.list.AskCode.{AskCode}
use Rattle.boundary.specs.declared.list.CallCode.{CallCode}
use Rattle.boundary.specs.declared.list.Lending.{Lending}

-- the question by which a bit is meant
abbrev pub question_for : Bool → Question
question_for refute = cond refute Refute Judge

-- the bit that means a question
abbrev pub is_refute : Question → Bool
is_refute Judge = false
is_refute Refute = true

-- a question that crosses, not answered yet
abbrev pub ask_for : AskCode → Ask
ask_for c = record { question = question_for c.refute; answer = None }

-- how a question crosses back
abbrev pub ask_told : Ask → AskCode
ask_told k = record { refute = is_refute k.question; told = maybe_told k.answer }

-- what a lending holds
abbrev pub held_in : Lending → Held
held_in k = record { answer = None; rounds = k.rounds.items; inside = k.inside.items }

module _ {X : Type 0} where
  -- so many values from the front; none where there are fewer
  abbrev pub front_of : List X → ℕ → List X
  front_of xs many = cond (nat_le many (length xs)) (take many xs) []

  -- values in the place of the first ones of a list, as far as it goes; what follows them stays
  abbrev pub over : List X → List X → List X
  over [] old = old
  over (x ∷ xs) [] = []
  over (x ∷ xs) (y ∷ old) = x ∷ over xs old

-- what each call of a list is lent: its round table and its questions, from the front of what the calls before it left
abbrev pub lendings_of : List CallCode → List ℕ → List AskCode → List Held
lendings_of [] rounds asks = []
lendings_of (c ∷ codes) rounds asks = record { answer = None; rounds = front_of rounds c.rounds; inside = map ask_for (front_of asks c.inside) } ∷ lendings_of codes (drop c.rounds rounds) (drop c.inside asks)
