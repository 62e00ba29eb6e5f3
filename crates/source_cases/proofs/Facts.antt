-- What the questions answer of a fact that is repeated. Assumes nothing.
use Rattle.std.proofs.Common.{◌≡◌, ℕ, zero, suc, ◌-◌, ◌<◌, ◌≤◌, min, Bool, true, false, cond, eqb, List, [], replicate, Some, None, refl, ap, ◌∙◌, arith}
use lib.ListN.{length-replicate, get_or-replicate}
use Rattle.std.specs.List.{slice_get}
use Rattle.std.specs.Option.{option_map}
use Rattle.std.proofs.lemmas.Option.{slice_get-get_or, slice_get_past}
use Rattle.std.proofs.lemmas.Bool.{cond-true, cond-false, ne_eqb, eq-eqb}
use Rattle.rules.specs.Program.{Rule}
use Rattle.rules.specs.Questions.{head_at, in_part}
use Rattle.source_cases.specs.Repeated.{fact, repeated}
use Rattle.source_cases.specs.declared.repeated.Repeated.{Repeated}

module _ (s : Repeated) (k : ℕ) where
  abbrev in_force : ℕ
  in_force = min s.rules 16384

  pub head_of_zero : k ≡ 0 → head_at (repeated s) k ≡ None
  head_of_zero none = ap (option_map (λ r. r.head)) (cond-true (eqb k 0) None (slice_get (replicate in_force fact) (k - 1)) (eq-eqb k 0 none))

  head_by_place : 0 < k → head_at (repeated s) k ≡ option_map (λ r. r.head) (slice_get (replicate in_force fact) (k - 1))
  head_by_place some = ap (option_map (λ r. r.head)) (cond-false (eqb k 0) None (slice_get (replicate in_force fact) (k - 1)) (ne_eqb k 0 (λ z. omega arith)))

  pub head_past : in_force < k → head_at (repeated s) k ≡ None
  head_past past =
      head_by_place (omega arith)
      ∙ ap (option_map (λ r. r.head)) (slice_get_past (replicate in_force fact) (k - 1) (omega (arith, length-replicate in_force fact)))

  pub head_there : 0 < k → k ≤ in_force → head_at (repeated s) k ≡ Some 1
  head_there some there =
      head_by_place some
      ∙ ap (option_map (λ r. r.head)) (slice_get-get_or (replicate in_force fact) (k - 1) fact (omega (arith, length-replicate in_force fact)) ∙ ap Some (get_or-replicate in_force (k - 1) fact fact (omega arith)))

-- a part that the fact does not have is absent at every rule
module _ (part : Rule → List ℕ) (none : part fact ≡ []) (i : ℕ) where
  no_atom_at : (many j : ℕ) → in_part (option_map part (slice_get (replicate many fact) j)) i ≡ None
  no_atom_at zero j = refl
  no_atom_at (suc many) zero = ap (λ atoms. slice_get atoms i) none
  no_atom_at (suc many) (suc j) = no_atom_at many j

  pub no_atom : (zeroth : Bool) (many j : ℕ) → in_part (option_map part (cond zeroth None (slice_get (replicate many fact) j))) i ≡ None
  no_atom true many j = refl
  no_atom false many j = no_atom_at many j
