-- The first atom of a part that fails a test. Assumes nothing.
use Rattle.std.proofs.Common.{◌≡◌, ℕ, zero, suc, ◌+◌, ◌-◌, ◌<◌, ◌≤◌, Bool, true, false, List, [], ◌∷◌, drop, Some, None, length, unwrap_or, sym, refl, ap, ◌∙◌, subst, ⊎_elim, arith}
use Rattle.std.specs.List.{slice_get}
use Rattle.std.proofs.lemmas.Bool.{and_from, and_parts, cases_Bool, cond-false, cond-true}
use Rattle.rules.specs.Tests.{all}
use Rattle.rules.proofs.Tests.{drop_from_nth, past_from_nth, some_not_none, some_same, within_from_nth}
use Rattle.rules.proofs.Parts.{few_in_parts}
use Rattle.rules.specs.Program.{Program, Lawful}
use Rattle.rules.specs.Questions.{in_part, positive_at, positive_part, rule_at}
use Rattle.std.specs.Option.{option_map}
use Rattle.std.proofs.lemmas.List.{at_drop_all}
use Rattle.rounds.specs.Progress.{first_wait}
use Rattle.rounds.specs.declared.standing.Wait.{Wait}

module _ (test : ℕ → Bool) where
  -- where the atom at each position passes
  pub all_from_at : (xs : List ℕ) → ((i a : ℕ) → slice_get xs i ≡ Some a → test a ≡ true) → all test xs ≡ true
  all_from_at [] each = refl
  all_from_at (x ∷ xs) each = and_from (test x) (all test xs) (each 0 x refl) (all_from_at xs (λ i a at. each (suc i) a at))

  pub at_from_all : (xs : List ℕ) → all test xs ≡ true → (i a : ℕ) → slice_get xs i ≡ Some a → test a ≡ true
  at_from_all [] h i a at = absurd (some_not_none (sym at))
  at_from_all (x ∷ xs) h zero a at = ap test (sym (some_same at)) ∙ (and_parts (test x) (all test xs) h).0
  at_from_all (x ∷ xs) h (suc i) a at = at_from_all xs (and_parts (test x) (all test xs) h).1 i a at

  -- of a list that begins at a position, what is known of the first atom that fails
  pub record Waits (from : ℕ) (xs : List ℕ) (w : Wait) : Type 0 where
    pub within : from ≤ w.position
    pub here : slice_get xs (w.position - from) ≡ Some w.atom
    pub fails : test w.atom ≡ false
    pub behind : (i a : ℕ) → i < w.position - from → slice_get xs i ≡ Some a → test a ≡ true

  pub wait_none : (from : ℕ) (xs : List ℕ) → first_wait test from xs ≡ None → all test xs ≡ true
  wait_none from [] e = refl
  wait_none from (x ∷ xs) e =
      ⊎_elim
      (λ t. and_from (test x) (all test xs) t (wait_none (from + 1) xs (sym (cond-true (test x) (first_wait test (from + 1) xs) (Some (record { position = from; atom = x })) t) ∙ e)))
      (λ f. absurd (some_not_none (sym (cond-false (test x) (first_wait test (from + 1) xs) (Some (record { position = from; atom = x })) f) ∙ e)))
      (cases_Bool (test x))

  pub wait_some : (from : ℕ) (xs : List ℕ) (w : Wait) → first_wait test from xs ≡ Some w → Waits from xs w
  wait_some from [] w e = absurd (some_not_none (sym e))
  wait_some from (x ∷ xs) w e =
      let rest = first_wait test (from + 1) xs in
      let here : Wait = record { position = from; atom = x } in
      ⊎_elim
      (λ t. let later = wait_some (from + 1) xs w (sym (cond-true (test x) rest (Some here) t) ∙ e) in
      let more : w.position - from ≡ suc (w.position - (from + 1)) = omega (arith, later.within) in
      record {
        within = omega (arith, later.within);
        here = ap (slice_get (x ∷ xs)) more ∙ later.here;
        fails = later.fails;
        behind = λ i. elim i as (λ j. (a : ℕ) → j < w.position - from → slice_get (x ∷ xs) j ≡ Some a → test a ≡ true) [
          | zero ↦ λ a below at. ap test (sym (some_same at)) ∙ t
          | suc j ↦ λ a below at. later.behind j a (omega (arith, more, below)) at
        ];
      })
      (λ f. let same : here ≡ w = some_same (sym (cond-false (test x) rest (Some here) f) ∙ e) in
      subst (Waits from (x ∷ xs)) same
      (record {
        within = omega arith;
        here = let none : from - from ≡ 0 = omega arith in ap (slice_get (x ∷ xs)) none;
        fails = f;
        behind = λ i a below at. absurd (omega (arith, below));
      }))
      (cases_Bool (test x))

pub slice_get-drop : {X : Type 0} (xs : List X) (n i : ℕ) → slice_get (drop n xs) i ≡ slice_get xs (n + i)
slice_get-drop [] zero i = refl
slice_get-drop [] (suc n) i = refl
slice_get-drop (x ∷ xs) zero i = let same : i ≡ 0 + i = omega arith in ap (slice_get (x ∷ xs)) same
slice_get-drop (x ∷ xs) (suc n) i = let next : suc (n + i) ≡ suc n + i = omega arith in slice_get-drop xs n i ∙ ap (slice_get (x ∷ xs)) next

module _ (test : ℕ → Bool) (part : List ℕ) (at : ℕ) where
  -- one atom more passes
  pub first_wait_more : (a : ℕ) → slice_get part at ≡ Some a → test a ≡ true → first_wait test at (drop at part) ≡ first_wait test (at + 1) (drop (at + 1) part)
  first_wait_more a here passes = ap (first_wait test at) (drop_from_nth part at a here) ∙ cond-true (test a) (first_wait test (at + 1) (drop (at + 1) part)) (Some (record { position = at; atom = a })) passes

  pub first_wait_here : (a : ℕ) → slice_get part at ≡ Some a → test a ≡ false → first_wait test at (drop at part) ≡ Some (record { position = at; atom = a })
  first_wait_here a here fails = ap (first_wait test at) (drop_from_nth part at a here) ∙ cond-false (test a) (first_wait test (at + 1) (drop (at + 1) part)) (Some (record { position = at; atom = a })) fails

  pub first_wait_past : slice_get part at ≡ None → first_wait test at (drop at part) ≡ None
  first_wait_past none = at_drop_all (first_wait test at) part at (past_from_nth part at none)

-- the atom at a position of a rule's positive part, as it is asked for
pub positive_at_nth : (p : Program) (k i : ℕ) → positive_at p k i ≡ slice_get (positive_part p k) i
positive_at_nth p k i = elim (rule_at p k) as (λ r. in_part (option_map (λ r. r.positive) r) i ≡ slice_get (unwrap_or (option_map (λ r. r.positive) r) []) i) [ None ↦ refl | Some r ↦ refl ]

-- positions of a part are few
pub position_below : (p : Program) → Lawful p → (k i a : ℕ) → positive_at p k i ≡ Some a → (i < length (positive_part p k)) × (i < 255)
position_below p lawful k i a at =
    let within = within_from_nth (positive_part p k) i a (sym (positive_at_nth p k i) ∙ at) in
    (within, omega (arith, within, few_in_parts p lawful k))

-- the first atom that fails stands at its position
pub wait_at : (test : ℕ → Bool) (part : List ℕ) (from : ℕ) (w : Wait) → first_wait test from (drop from part) ≡ Some w → slice_get part w.position ≡ Some w.atom
wait_at test part from w found =
    let waits = wait_some test from (drop from part) w found in
    let place : w.position ≡ from + (w.position - from) = omega (arith, waits.within) in
    ap (slice_get part) place ∙ sym (slice_get-drop part from (w.position - from)) ∙ waits.here

pub wait_below : (p : Program) → Lawful p → (test : ℕ → Bool) (k from : ℕ) (w : Wait) → first_wait test from (drop from (positive_part p k)) ≡ Some w → w.position < 255
wait_below p lawful test k from w found = (position_below p lawful k w.position w.atom (positive_at_nth p k w.position ∙ wait_at test (positive_part p k) from w found)).1
