-- A program without inputs, and with one input more. Assumes nothing.
use Rattle.std.proofs.Common.{◌≡◌, ℕ, ◌<◌, ◌≤◌, Bool, true, false, cond, ltb, List, [], ◌∷◌, ◌++◌, map, length, take, Ok, Err, filter, Result, sym, refl, ap, ◌∙◌, arith, length-append}
use lib.ListN.{length-map}
use Rattle.std.proofs.lemmas.List.{append-nil, append_assoc, map-append, take_all}
use Rattle.std.proofs.lemmas.List.Elements.{filter-append}
use Rattle.std.proofs.lemmas.Bool.{cond-true, ltb-true}
use Rattle.rules.specs.Program.{Rule, Program, Lawful, within}
use Rattle.rules.specs.Tests.{member}
use Rattle.refusal.specs.declared.Reason.TheVariants.{Limit}
use Rattle.inputs.specs.Layer.{fact, facts, with_inputs, with_fact, refusal_at, room_checked, is_new, program_after}
use Rattle.inputs.proofs.Asked.{length-with_inputs}

-- a program with other rules
abbrev with_rules : Program → List Rule → Program
with_rules p rules = record { atoms = p.atoms; rules = rules }

pub without_inputs : (p : Program) (inputs : List ℕ) → Lawful p → inputs ≡ [] → with_inputs p inputs ≡ p
without_inputs p inputs lawful none =
    ap (with_inputs p) none ∙ ap (with_rules p) (ap (take 16384) (append-nil p.rules) ∙ take_all 16384 p.rules lawful.rules_bound)

module _ (n : ℕ) (inputs : List ℕ) (a : ℕ) where
  facts_push : within n a ≡ true → facts n (inputs ++ (a ∷ [])) ≡ facts n inputs ++ (fact a ∷ [])
  facts_push is =
      ap (map fact) (filter-append (within n) inputs (a ∷ []) ∙ ap (λ more. filter (within n) inputs ++ more) (cond-true (within n a) (a ∷ []) [] is))
      ∙ map-append fact (filter (within n) inputs) (a ∷ [])

module _ (p : Program) (inputs : List ℕ) (a : ℕ) where
  with_inputs_push : within p.atoms a ≡ true → length (with_inputs p inputs).rules < 16384 → with_inputs p (inputs ++ (a ∷ [])) ≡ with_fact (with_inputs p inputs) a
  with_inputs_push is short =
      let rules = p.rules in
      let old = facts p.atoms inputs in
      let few : length (rules ++ old) < 16384 = simp (length-append, length-map) (omega (arith, length-with_inputs p inputs)) in
      let fits : length (rules ++ (old ++ (fact a ∷ []))) ≤ 16384 = simp (length-append, length-map) (omega (arith, length-with_inputs p inputs)) in
      ap (with_rules p)
      (ap (λ new. take 16384 (rules ++ new)) (facts_push p.atoms inputs a is)
      ∙ take_all 16384 (rules ++ (old ++ (fact a ∷ []))) fits
      ∙ sym (append_assoc rules old (fact a ∷ []))
      ∙ ap (λ whole. whole ++ (fact a ∷ [])) (sym (take_all 16384 (rules ++ old) (omega arith))))

-- where an answer that comes after two tests is Ok, the second test passed
second_test : {E : Type 0} (first second : Bool) (d e : E) → ◌≡◌ {A = Result (Unit {0}) E} (cond first (cond second (Ok tt) (Err e)) (Err d)) (Ok tt) → second ≡ true
second_test true true d e is = refl
second_test true false d e is = cc
second_test false second d e is = cc

module _ (p : Program) (inputs : List ℕ) (a : ℕ) (atom : within p.atoms a ≡ true) (apart : member a inputs ≡ false) (room : room_checked p inputs ≡ Ok tt) where
  put_is_new : is_new p inputs a ≡ true
  put_is_new = rw (atom, apart, room)

  pub put_listed : with_inputs p (inputs ++ (a ∷ [])) ≡ program_after p inputs a
  put_listed =
      let short = second_test (ltb (length inputs) 64) (ltb (length (with_inputs p inputs).rules) 16384) (refusal_at Limit 64) (refusal_at Limit 16384) room in
      with_inputs_push p inputs a atom (ltb-true (length (with_inputs p inputs).rules) 16384 short)
      ∙ sym (cond-true (is_new p inputs a) (with_fact (with_inputs p inputs) a) (with_inputs p inputs) put_is_new)
