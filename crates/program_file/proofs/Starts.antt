-- Each rule stands where the index says. Assumes nothing.
use Rattle.std.proofs.Common.{◌≡◌, ℕ, zero, suc, ◌+◌, ◌<◌, ◌≤◌, true, ◌≢◌, List, [], ◌∷◌, length, get_or, drop, set, is_ok, Some, Ok, Err, Option, Result, sym, refl, ap, ◌∙◌, subst, arith, length-set}
use Rattle.std.proofs.lemmas.Bool.{false≢true}
use Rattle.std.proofs.lemmas.List.{get_or-set_same, get_or-set_other, drop-drop}
use Rattle.std.specs.List.{slice_get}
use Rattle.refusal.specs.declared.Refusal.{Refusal}
use Rattle.refusal.specs.Results.{err_not_ok}
use Rattle.rules.specs.Program.{Rule, Program}
use Rattle.program.specs.Reading.{rule_of, rules_from, read_or_empty}
use Rattle.program.specs.Index.{rule_size, with_starts, index_of, indexed}
use Rattle.program.specs.Turns.{turn_of, none_left, one_more}
use Rattle.program.specs.Here.{RuleHere, rule_here, size_of_rule}
use Rattle.program.specs.declared.reader.Index.{Index}

-- the index that checking gave is that of the program read
pub from_indexed : (r : Result Program Refusal) (index : Index) → indexed r ≡ Ok index → (is_ok r ≡ true) × (index ≡ index_of (read_or_empty r))
from_indexed (Err e) index h = absurd (err_not_ok h)
from_indexed (Ok p) index h = let same : index ≡ index_of p = cc in (refl, same)

pub ok_program : (r : Result Program Refusal) → is_ok r ≡ true → r ≡ Ok (read_or_empty r)
ok_program (Ok p) h = refl
ok_program (Err e) h = absurd (false≢true h)

-- later rules leave the places of earlier ones
starts_below : (rules : List Rule) (starts : List ℕ) (k place j : ℕ) → j < k → get_or (with_starts starts k place rules) j 0 ≡ get_or starts j 0
starts_below [] starts k place j h = refl
starts_below (r ∷ rules) starts k place j h =
    let apart : j ≢ k = λ e. omega arith in
    starts_below rules (set starts k place) (k + 1) (place + rule_size r) j (omega arith) ∙ get_or-set_other starts k j place 0 apart

-- the rule, if it is there, stands at `start`
pub record StandsAt (bytes : List ℕ) (start : ℕ) (rule : Option Rule) : Type 0 where
  pub size : ℕ
  pub count : ℕ
  pub here : RuleHere (drop start bytes) size count
  pub is : rule ≡ Some (rule_of (drop start bytes) size count)

-- the i-th of the rules read from a place on, where `before` stand before
abbrev Place : List ℕ → List ℕ → ℕ → ℕ → List Rule → ℕ → Type 0
Place bytes starts before place rules i = StandsAt bytes (get_or (with_starts starts before place rules) (before + i) 0) (slice_get rules i)

module _ (bytes : List ℕ) (n stated : ℕ) where
  first_place : (starts : List ℕ) (before place : ℕ) (others : List Rule) (size k : ℕ) → before < length starts → RuleHere (drop place bytes) size k
      → Place bytes starts before place (rule_of (drop place bytes) size k ∷ others) 0
  first_place starts before place others size k room here =
      let r = rule_of (drop place bytes) size k in
      let at_zero : before + 0 ≡ before = omega arith in
      let start : get_or (with_starts (set starts before place) (before + 1) (place + rule_size r) others) (before + 0) 0 ≡ place =
      ap (λ j. get_or (with_starts (set starts before place) (before + 1) (place + rule_size r) others) j 0) at_zero
      ∙ starts_below others (set starts before place) (before + 1) (place + rule_size r) before (omega arith)
      ∙ get_or-set_same starts before place 0 room in
      subst (λ s. StandsAt bytes s (Some r)) (sym start) (record { size = size; count = k; here = here; is = refl })

  pub stands : (room before place : ℕ) (starts : List ℕ) (rules : List Rule) → rules_from room n stated before (drop place bytes) place ≡ Ok rules → before + length rules ≤ length starts
      → (i : ℕ) → i < length rules → Place bytes starts before place rules i
  stands zero before place starts rules h room i within =
      elim (turn_of n stated before (drop place bytes) place rules zero h) [
        | none_left none is was ↦ absurd (omega (arith, ap length none))
        | one_more less size k others room_is is fine was same ↦ absurd (omega (arith, room_is))
      ]
  stands (suc left) before place starts rules h room i within =
      elim (turn_of n stated before (drop place bytes) place rules (suc left) h) [
        | none_left none is was ↦ absurd (omega (arith, ap length none))
        | one_more less size k others room_is is fine was same ↦
            let r = rule_of (drop place bytes) size k in
            let here = rule_here (drop place bytes) place size k is in
            let long : length rules ≡ suc (length others) = ap length same in
            subst (λ rs. Place bytes starts before place rs i) (sym same) (
            elim i as (λ j. j < suc (length others) → Place bytes starts before place (r ∷ others) j) [
              | zero ↦ λ _. first_place starts before place others size k (omega (arith, long)) here
              | suc j ↦ λ less_than.
                  let less_is : less ≡ left = omega (arith, room_is) in
                  let read : rules_from left n stated (before + 1) (drop (place + (4 + size)) bytes) (place + (4 + size)) ≡ Ok others =
                  ap (λ t. rules_from left n stated (before + 1) t (place + (4 + size))) (sym (drop-drop (4 + size) place bytes))
                  ∙ ap (λ m. rules_from m n stated (before + 1) (drop (4 + size) (drop place bytes)) (place + (4 + size))) (sym less_is) ∙ was in
                  let later : Place bytes (set starts before place) (before + 1) (place + (4 + size)) others j =
                  stands left (before + 1) (place + (4 + size)) (set starts before place) others read (simp length-set (omega (arith, long))) j (omega arith) in
                  let moved : Place bytes (set starts before place) (before + 1) (place + rule_size r) others j =
                  subst (λ s. Place bytes (set starts before place) (before + 1) (place + s) others j) (sym (size_of_rule (drop place bytes) size k here)) later in
                  let next : (before + 1) + j ≡ before + suc j = omega arith in
                  subst (λ m. StandsAt bytes (get_or (with_starts (set starts before place) (before + 1) (place + rule_size r) others) m 0) (slice_get others j)) next moved
            ] (omega (arith, long))
            )
      ]
