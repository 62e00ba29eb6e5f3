-- The numbers in a table of rounds, for a set of the program's atoms. Assumes nothing.
use Rattle.std.proofs.Common.{◌≡◌, ℕ, false, leb, List, length, refl, arith}
use Rattle.std.proofs.lemmas.Bool.{and_right, both_ways, false_from_ne_true, lt-leb}
use Rattle.rules.specs.Program.{Program, within}
use Rattle.rules.specs.Stable.{Atoms}
use Rattle.rules.proofs.Tests.{within_from}
use Rattle.marks.specs.Marks.{marked}
use Rattle.marks.proofs.Marked.{marked_above, marked_upto}
use Rattle.tables.specs.Entries.{table_of}
use Rattle.rankings.specs.Laws.{Known}
use Rattle.rankings.specs.Rounds.{round_upto, taken}
use Rattle.rankings.proofs.Numbers.{round_untaken}
use Rattle.rankings.proofs.Rounds.{taken_in}
use Rattle.rounds.specs.Taking.{number_in}
use Rattle.rounds.proofs.Tables.{number_in_table}

-- the marked atoms of a table that fits are atoms of the program
pub marked_known : (p : Program) (marks : List ℕ) → length marks ≡ p.atoms → Known p (marked marks)
marked_known p marks sized a into = within_from p.atoms a (marked_above marks a into) (omega (arith, marked_upto marks a into))

module _ (p : Program) (set : Atoms) (known : Known p set) (last : ℕ) where
  round_outside : (a : ℕ) → within p.atoms a ≡ false → round_upto p set last a ≡ 0
  round_outside a out = round_untaken p set last a (false_from_ne_true (taken p set last a) (λ h. both_ways (within p.atoms a) out (known a (taken_in p set last a h))))

  pub number_upto : (a : ℕ) → number_in (table_of (round_upto p set last) p.atoms) a ≡ round_upto p set last a
  number_upto = number_in_table (round_upto p set last) p.atoms (round_outside 0 refl) (λ a past. round_outside a (and_right (leb 1 a) (leb a p.atoms) (lt-leb a p.atoms past)))
