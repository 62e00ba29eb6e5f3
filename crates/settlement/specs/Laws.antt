-- What settle's answers say of the rankings of a set, and when it refuses for want of rungs. Assumes nothing.
use Rattle.std.specs.Prelude.{◌≡◌, ℕ, ◌<◌, true, List, Ok, Err, Result, ◌↔◌}
use Rattle.refusal.specs.declared.Refusal.{Refusal}
use Rattle.rules.specs.Program.{Program}
use Rattle.rules.specs.Stable.{Atoms, Stable}
use Rattle.rankings.specs.Laws.{NoneBroken}
use Rattle.rankings.specs.Ranking.{Ranked, StrictRanking}
use Rattle.rounds.specs.Taking.{number_in}
use Rattle.settlement.specs.declared.Settlement.{Settlement}
use Rattle.settlement.specs.declared.Settlement.TheVariants as answer

-- the numbers are a strict ranking of the set, and every strict ranking of the set gives its atoms these numbers
pub record OnlyRanking (p : Program) (set : Atoms) (number : ℕ → ℕ) : Type 0 where
  pub strict : StrictRanking p set number
  pub only : (other : ℕ → ℕ) → StrictRanking p set other → (a : ℕ) → set a ≡ true → other a ≡ number a

-- some strict ranking of the set gives an atom of it a number above the count
abbrev pub RankedAbove : ℕ → Program → Atoms → Type 0
RankedAbove count p set = (number : ℕ → ℕ) × StrictRanking p set number × ((a : ℕ) × (set a ≡ true) × (count < number a))

module _ (p : Program) (set : Atoms) (result : Result Settlement Refusal) where
  -- where the answer is that the set is ranked, the round table gives the only strict ranking of it
  abbrev pub RankedGivesOnlyRanking : List ℕ → Type 0
  RankedGivesOnlyRanking rounds = (k : ℕ) → result ≡ Ok (answer.Ranked k) → OnlyRanking p set (number_in rounds)

  -- where the answer is that atoms are left over, the set has no strict ranking
  abbrev pub LoopedHasNoRanking : Type 0
  LoopedHasNoRanking = (m : ℕ) → result ≡ Ok (answer.Looped m) → Ranked p set → ⊥

  -- on tables that are not refused, and where no rule is broken, the answer is a refusal exactly when the set is stable and its strict ranking has a number above the count of rungs
  abbrev pub RefusesExactlyAboveRungs : ℕ → Result (Unit {0}) Refusal → Type 0
  RefusesExactlyAboveRungs count checked = checked ≡ Ok tt → NoneBroken p set → ((e : Refusal) × (result ≡ Err e)) ↔ (Stable p set × RankedAbove count p set)

-- what an answer and a round table say of the rankings of a set, where the tables were checked so
pub record SaysOfRankings (count : ℕ) (p : Program) (set : Atoms) (checked : Result (Unit {0}) Refusal) (result : Result Settlement Refusal) (rounds : List ℕ) : Type 0 where
  pub ranked_gives_only_ranking : RankedGivesOnlyRanking p set result rounds
  pub looped_has_no_ranking : LoopedHasNoRanking p set result
  pub refuses_exactly_above_rungs : RefusesExactlyAboveRungs p set result count checked
