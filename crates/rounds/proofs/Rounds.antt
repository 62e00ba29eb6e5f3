-- The first round that takes no atom ends the count of rounds. Assumes nothing.
use Rattle.std.proofs.Common.{◌≡◌, ℕ, suc, ◌+◌, ◌<◌, ◌≤◌, true, false, ap, ◌∙◌, subst, sym, arith}
use Rattle.std.proofs.Math.Path.{fun_ext}
use Rattle.rules.specs.Program.{Program}
use Rattle.rules.specs.Stable.{Atoms}
use Rattle.tables.specs.Entries.{table_of}
use Rattle.rankings.specs.Laws.{Known}
use Rattle.rankings.specs.Rounds.{round_of, round_upto, rounds_needed, takes_some}
use Rattle.rankings.proofs.Needed.{needed_is, steady_by_takes, takes_none}
use Rattle.rankings.proofs.Numbers.{round_steady}
use Rattle.rankings.proofs.Rounds.{Steady}

module _ (p : Program) (set : Atoms) (known : Known p set) (k round : ℕ) (next : round ≡ k + 1) (within : round ≤ p.atoms) (none : takes_some p set round ≡ false) where
  still : Steady p set k
  still = steady_by_takes p set known k (omega arith) (let same : round ≡ suc k = omega arith in subst (λ j. takes_some p set j ≡ false) same none)

  pub last_table : table_of (round_upto p set round) p.atoms ≡ table_of (round_of p set) p.atoms
  last_table = ap (λ f. table_of f p.atoms) (fun_ext (λ a. round_steady p set k round a (omega arith) still ∙ sym (round_steady p set k p.atoms a (omega arith) still)))

  pub last_needed : ((j : ℕ) → 1 ≤ j → j < round → takes_some p set j ≡ true) → rounds_needed p set ≡ k
  last_needed each = needed_is p set k (omega arith) (λ j low upto. each j low (omega arith)) (takes_none p set k still)
