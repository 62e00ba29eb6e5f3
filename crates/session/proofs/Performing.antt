-- A list of calls, performed from the first on. Assumes nothing.
use Rattle.std.proofs.Common.{◌≡◌, ℕ, suc, ◌+◌, ◌<◌, ◌≤◌, Bool, List, [], ◌∷◌, ◌++◌, map, length, take, drop, set, get_or, Some, None, append_assoc, sym, refl, ap, ◌∙◌, arith}
use Rattle.std.specs.List.{slice_get}
use Rattle.std.proofs.lemmas.List.{at_drop_all, drop-set-lt, drop_more, map-append, take-append-drop}
use Rattle.std.proofs.Math.Seq.{take-suc-set}
use Rattle.rules.specs.Program.{Program}
use Rattle.rules.proofs.Tests.{drop_from_nth, past_from_nth}
use Rattle.session.specs.Run.{Held, Tables, after_all, after_call, after_loan, held, performed}
use Rattle.session.specs.declared.Call.{Call}
use Rattle.session.specs.declared.Loan.{Loan}

module _ {L : Type 0} (below : L → L → Bool) (count : ℕ) (rung : ℕ → L) (p : Program) where
  abbrev all : Tables L → List (Call L) → List Loan → Tables L
  all t calls loans = after_all below count rung p t calls loans

  abbrev loans_after : Tables L → List (Call L) → List Loan → List Held
  loans_after t calls loans = performed below count rung p t calls loans

  no_loans : (t : Tables L) (calls : List (Call L)) → all t calls [] ≡ t
  no_loans t [] = refl
  no_loans t (c ∷ calls) = refl

  none_held : (t : Tables L) (calls : List (Call L)) → loans_after t calls [] ≡ []
  none_held t [] = refl
  none_held t (c ∷ calls) = refl

  module _ (t : Tables L) (calls : List (Call L)) (loans : List Loan) (i : ℕ) where
    joined : loans_after t (drop i calls) (drop i loans) ≡ map held (drop i loans) → map held (take i loans) ++ loans_after t (drop i calls) (drop i loans) ≡ map held loans
    joined rest = ap (λ hs. map held (take i loans) ++ hs) rest ∙ sym (map-append held (take i loans) (drop i loans)) ∙ ap (map held) (take-append-drop i loans)

    -- no loan is left
    pub all_performed : length loans ≤ i → all t (drop i calls) (drop i loans) ≡ t
    all_performed past = at_drop_all (all t (drop i calls)) loans i past ∙ no_loans t (drop i calls)

    pub all_held : length loans ≤ i → map held (take i loans) ++ loans_after t (drop i calls) (drop i loans) ≡ map held loans
    all_held past = joined (at_drop_all (loans_after t (drop i calls)) loans i past ∙ none_held t (drop i calls) ∙ sym (at_drop_all (map held) loans i past))

    -- no call is left
    pub no_more : slice_get calls i ≡ None → all t (drop i calls) (drop i loans) ≡ t
    no_more none = at_drop_all (λ cs. all t cs (drop i loans)) calls i (past_from_nth calls i none)

    pub no_more_held : slice_get calls i ≡ None → map held (take i loans) ++ loans_after t (drop i calls) (drop i loans) ≡ map held loans
    no_more_held none = joined (at_drop_all (λ cs. loans_after t cs (drop i loans)) calls i (past_from_nth calls i none))

    module _ (c : Call L) (k d : Loan) (u : Tables L) (look : slice_get calls i ≡ Some c) (within : i < length loans) (tables : u ≡ after_call below count rung p t (get_or loans i d).rounds.now c) where
      pub one_more : all u (drop (i + 1) calls) (drop (i + 1) (set loans i k)) ≡ all t (drop i calls) (drop i loans)
      one_more =
          ap (all u (drop (i + 1) calls)) (drop-set-lt (i + 1) loans i k (omega arith))
          ∙ ap (λ v. all v (drop (i + 1) calls) (drop (i + 1) loans)) tables
          ∙ sym (ap (λ cs. all t cs (drop i loans)) (drop_from_nth calls i c look) ∙ ap (all t (c ∷ drop (i + 1) calls)) (drop_more loans i d within))

      pub one_more_held : held k ≡ after_loan below count rung p t c (get_or loans i d) → map held (take (i + 1) (set loans i k)) ++ loans_after u (drop (i + 1) calls) (drop (i + 1) (set loans i k)) ≡ map held (take i loans) ++ loans_after t (drop i calls) (drop i loans)
      one_more_held is =
          let next : i + 1 ≡ suc i = omega arith in
          let rest : List Held = loans_after u (drop (i + 1) calls) (drop (i + 1) loans) in
          let past : loans_after u (drop (i + 1) calls) (drop (i + 1) (set loans i k)) ≡ rest = ap (loans_after u (drop (i + 1) calls)) (drop-set-lt (i + 1) loans i k (omega arith)) in
          let start : map held (take (i + 1) (set loans i k)) ≡ map held (take i loans) ++ held k ∷ [] = ap (λ n. map held (take n (set loans i k))) next ∙ ap (map held) (take-suc-set loans i k within) ∙ map-append held (take i loans) (k ∷ []) in
          let there : loans_after t (drop i calls) (drop i loans) ≡ after_loan below count rung p t c (get_or loans i d) ∷ loans_after (after_call below count rung p t (get_or loans i d).rounds.now c) (drop (i + 1) calls) (drop (i + 1) loans) =
          ap (λ cs. loans_after t cs (drop i loans)) (drop_from_nth calls i c look) ∙ ap (loans_after t (c ∷ drop (i + 1) calls)) (drop_more loans i d within) in
          ap (λ hs. hs ++ loans_after u (drop (i + 1) calls) (drop (i + 1) (set loans i k))) start
          ∙ append_assoc (map held (take i loans)) (held k ∷ []) (loans_after u (drop (i + 1) calls) (drop (i + 1) (set loans i k)))
          ∙ ap (λ hs. map held (take i loans) ++ held k ∷ hs) (past ∙ ap (λ v. loans_after v (drop (i + 1) calls) (drop (i + 1) loans)) tables)
          ∙ ap (λ h. map held (take i loans) ++ h ∷ loans_after (after_call below count rung p t (get_or loans i d).rounds.now c) (drop (i + 1) calls) (drop (i + 1) loans)) is
          ∙ ap (λ hs. map held (take i loans) ++ hs) (sym there)
