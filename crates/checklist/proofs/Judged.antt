-- Where a plan is judged, the kind of its levels is known. Assumes nothing.
use Rattle.std.proofs.Common.{◌≡◌, ℕ, Bool, true, false, cond, eqb, List, Ok, Err, Result, sym, ap, ◌∙◌}
use Rattle.refusal.specs.Results.{err_not_ok}
use Rattle.refusal.specs.declared.Reason.TheVariants.{LevelKind}
use Rattle.refusal.specs.declared.Refusal.{Refusal}
use Rattle.rules.specs.Program.{Program}
use Rattle.certificate.specs.Reading.{refusal_at, stated_kind}
use Rattle.orders.specs.declared.kind.LevelKind.TheVariants.{Numbers, Routes}
use Rattle.program.specs.Reading.{atoms_read}
use Rattle.verdict.specs.declared.Verdict.{Verdict}
use Rattle.console.specs.Answer as console

module _ (certificate : List ℕ) (v : Verdict) (e : Refusal) where
  module _ (p : Program) where
    by_tests : (one two : Bool) (first second : Result Verdict Refusal) → cond one (Ok Numbers) (cond two (Ok Routes) (Err (refusal_at LevelKind 0))) ≡ Err e → cond one first (cond two second (Err (refusal_at LevelKind 0))) ≡ Ok v → ⊥
    by_tests true two first second none is = absurd (err_not_ok (sym none))
    by_tests false true first second none is = absurd (err_not_ok (sym none))
    by_tests false false first second none is = err_not_ok is

    by_kind : (kind : Result ℕ Refusal) → console.known_kind kind ≡ Err e → console.by_level_kind p certificate kind ≡ Ok v → ⊥
    by_kind (Err x) none is = err_not_ok is
    by_kind (Ok kind) none is = by_tests (eqb kind 1) (eqb kind 2) _ _ none is

  -- a program with n atoms is not judged where the certificate for n atoms has no known kind
  pub judged_kind_known : (n : ℕ) (program : Result Program Refusal) → Ok n ≡ atoms_read program → Err e ≡ console.known_kind (stated_kind n certificate) → Ok v ≡ console.by_program certificate program → ⊥
  judged_kind_known n (Err x) read none is = err_not_ok (sym read)
  judged_kind_known n (Ok p) read none is =
      let same : n ≡ p.atoms = cc in
      by_kind p (stated_kind p.atoms certificate) (sym (none ∙ ap (λ k. console.known_kind (stated_kind k certificate)) same)) (sym is)
