-- Calls that were performed with the loans for them are calls that were performed.
use Rattle.std.proofs.Common.{◌≡◌, ℕ, Bool, List, length, map, Ok, Result, ◌∙◌, sym, ap, inl, inr, subst}
use Rattle.std.specs.List.{flat_map}
use Rattle.std.proofs.lemmas.List.Folds.{flat_map-map}
use Rattle.std.proofs.lemmas.Simd.{map-map}
use Rattle.refusal.specs.declared.Refusal.{Refusal}
use Rattle.rules.specs.Program.{Program}
use Rattle.session.specs.Run.{Held, Tables, after_all, held, performed}
use Rattle.session.specs.declared.Call.{Call}
use Rattle.session.specs.declared.Loan.{Loan}
use Rattle.boundary.specs.Answers.{maybe_told, worded}
use Rattle.boundary.specs.Entries.{stored_for}
use Rattle.boundary.specs.Lendings.{ask_told, held_in, lendings_of, over}
use Rattle.boundary.specs.Lists.{Crossed, call_for, handed_back, AfterCalls, AfterKind, Listed}
use Rattle.boundary.specs.declared.answers.Told.{Told}
use Rattle.boundary.specs.declared.entries.Stored.{Stored}
use Rattle.boundary.specs.declared.list.AskCode.{AskCode}
use Rattle.boundary.specs.declared.list.CallCode.{CallCode}
use Rattle.boundary.specs.declared.list.Lending.{Lending}

crossed_same : (a b : Crossed) → a.marks ≡ b.marks → a.stored ≡ b.stored → a.rounds ≡ b.rounds → a.asks ≡ b.asks → a.answers ≡ b.answers → a ≡ b
crossed_same a b marks stored rounds asks answers =
    let by_marks : List ℕ → Crossed = λ x. record { marks = x; stored = a.stored; rounds = a.rounds; asks = a.asks; answers = a.answers } in
    let by_stored : List Stored → Crossed = λ x. record { marks = b.marks; stored = x; rounds = a.rounds; asks = a.asks; answers = a.answers } in
    let by_rounds : List ℕ → Crossed = λ x. record { marks = b.marks; stored = b.stored; rounds = x; asks = a.asks; answers = a.answers } in
    let by_asks : List AskCode → Crossed = λ x. record { marks = b.marks; stored = b.stored; rounds = b.rounds; asks = x; answers = a.answers } in
    let by_answers : List Told → Crossed = λ x. record { marks = b.marks; stored = b.stored; rounds = b.rounds; asks = b.asks; answers = x } in
    ap by_marks marks ∙ ap by_stored stored ∙ ap by_rounds rounds ∙ ap by_asks asks ∙ ap by_answers answers

module _ {L : Type 0} (below : L → L → Bool) (count : ℕ) (rung : ℕ → L) (level : ℕ → L) (number : L → ℕ) (p : Program) where
  pub after_calls : (t : Tables L) (codes : List CallCode) (before after : Crossed) (calls : List (Call L)) (lendings : List Lending) (loans left : List Loan)
      → calls ≡ map (call_for level) codes → map held_in lendings ≡ lendings_of codes before.rounds before.asks → map held loans ≡ map held_in lendings
      → map held left ≡ performed below count rung p t calls loans
      → after.marks ≡ (after_all below count rung p t calls loans).marks
      → after.stored ≡ map (stored_for number) (after_all below count rung p t calls loans).entries
      → after.rounds ≡ over (flat_map (λ k. k.rounds.now) left) before.rounds
      → after.asks ≡ over (flat_map (λ k. map ask_told k.inside.now) left) before.asks
      → after.answers ≡ over (map (λ k. maybe_told k.answer) left) before.answers
      → AfterCalls below count rung level number p t codes before after
  after_calls t codes before after calls lendings loans left are lent held_same left_is marks stored rounds asks answers =
      let rounds_in : Held → List ℕ = λ h. h.rounds in
      let asks_in : Held → List AskCode = λ h. map ask_told h.inside in
      let answer_in : Held → Told = λ h. maybe_told h.answer in
      let all : after ≡ handed_back below count rung level number p t calls loans before =
      crossed_same after (handed_back below count rung level number p t calls loans before) marks stored
      (rounds ∙ ap (λ xs. over xs before.rounds) (sym (flat_map-map rounds_in held left) ∙ ap (flat_map rounds_in) left_is))
      (asks ∙ ap (λ xs. over xs before.asks) (sym (flat_map-map asks_in held left) ∙ ap (flat_map asks_in) left_is))
      (answers ∙ ap (λ xs. over xs before.answers) (sym (map-map answer_in held left) ∙ ap (map answer_in) left_is)) in
      ∣ (loans, (held_same ∙ lent, all ∙ ap (λ cs. handed_back below count rung level number p t cs loans before) are)) ∣₁

-- what was told of a program that was read
module _ (p : Program) (r : Result Program Refusal) (read : Ok p ≡ r) (routes : Bool) (making : ℕ) (certificate : List ℕ) (codes : List CallCode) (before after : Crossed) (told : Told) where
  as_read : Listed (Ok p) routes making certificate codes before after told → Listed r routes making certificate codes before after told
  as_read = subst (λ q. Listed q routes making certificate codes before after told) read

  pub performed_listed : told ≡ worded 1 (length codes) → AfterKind routes p making certificate codes before after → Listed r routes making certificate codes before after told
  performed_listed is done = as_read (inr (is, done))

  pub failed_listed : told ≡ worded 12 0 → after ≡ before → Listed r routes making certificate codes before after told
  failed_listed is same = as_read (inl (is, same))
