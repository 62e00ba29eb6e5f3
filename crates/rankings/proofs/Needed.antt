-- How many rounds are needed, and what they leave. Assumes nothing.
use Rattle.std.proofs.Common.{◌≡◌, ℕ, zero, suc, ◌-◌, ◌<◌, ◌≤◌, true, false, not, eqb, refl, ⊎_elim, arith}
use Rattle.std.proofs.lemmas.Bool.{and_cases, and_parts, both_ways, cases_Bool, cases_eq, cases_lt, eq-eqb, eqb-true, false_from_ne_true, not-false, not-true, true_from_ne_false}
use Rattle.rules.specs.Program.{Program, within}
use Rattle.rules.specs.Stable.{Atoms}
use Rattle.rules.proofs.Tests.{lowest_some, some_from_lowest, tally_none, tally_reaches, tally_some, tally_upto, within_from, within_parts}
use Rattle.rankings.specs.Laws.{Known}
use Rattle.rankings.specs.Rounds.{left_count, left_over, round_of, rounds_needed, taken, takes_some}
use Rattle.rankings.proofs.Rounds.{Steady, steady, taken_in}
use Rattle.rankings.proofs.Numbers.{round_bounded, round_of_taken, taken_by_round}

module _ (p : Program) (set : Atoms) where
  -- as many rounds are needed as take some atom, where no later one does
  pub needed_is : (k : ℕ) → k ≤ p.atoms → ((j : ℕ) → 1 ≤ j → j ≤ k → takes_some p set j ≡ true) → ((j : ℕ) → k < j → j ≤ p.atoms → takes_some p set j ≡ false) → rounds_needed p set ≡ k
  needed_is k within each none = omega (arith, tally_reaches (takes_some p set) p.atoms k within each, tally_upto (takes_some p set) p.atoms k none)

  -- a round takes some atom exactly where an atom has its number
  pub takes_by : (j a : ℕ) → within p.atoms a ≡ true → round_of p set a ≡ j → takes_some p set j ≡ true
  takes_by j a known at =
      let place = within_parts p.atoms a known in
      lowest_some (λ b. eqb (round_of p set b) j) p.atoms a place.0 place.1 (eq-eqb (round_of p set a) j at)

  pub taker : (j : ℕ) → takes_some p set j ≡ true → (a : ℕ) × (within p.atoms a ≡ true) × (round_of p set a ≡ j)
  taker j takes =
      let found = some_from_lowest (λ b. eqb (round_of p set b) j) p.atoms takes in
      (found.0, within_from p.atoms found.0 found.1 found.2, eqb-true (round_of p set found.0) j found.3)

  takes_within : (k : ℕ) → takes_some p set k ≡ true → k ≤ p.atoms
  takes_within k takes = let found = taker k takes in omega (arith, found.2, round_bounded p set p.atoms found.0)

  -- the first j rounds take an atom whose number is j
  taken_at : (j a : ℕ) → 1 ≤ j → round_of p set a ≡ j → taken p set j a ≡ true
  taken_at j a some at = taken_by_round p set p.atoms j a (omega (arith, at, round_bounded p set p.atoms a)) (omega (arith, at, some)) (omega (arith, at))

  -- where the round after the first k takes nothing new, an atom has no later number
  no_later : (k j : ℕ) → k ≤ p.atoms → Steady p set k → k < j → takes_some p set j ≡ true → ⊥
  no_later k j within still later takes =
      let found = taker j takes in
      let h = steady p set k still j found.0 (taken_at j found.0 (omega arith) found.2) in
      omega (arith, found.2, later, (round_of_taken p set p.atoms k found.0 within h).1)

  -- after a round that takes nothing new none takes an atom
  pub takes_none : (k : ℕ) → ((b : ℕ) → taken p set (suc k) b ≡ true → taken p set k b ≡ true) → (j : ℕ) → k < j → j ≤ p.atoms → takes_some p set j ≡ false
  takes_none k still j later within = false_from_ne_true (takes_some p set j) (no_later k j (omega arith) still later)

  module _ (known : Known p set) where
    -- where no atom has the number of the next round, that round takes nothing new
    pub steady_by_takes : (k : ℕ) → suc k ≤ p.atoms → takes_some p set (suc k) ≡ false → Steady p set k
    steady_by_takes k within none a h =
        let at = round_of_taken p set p.atoms (suc k) a within h in
        ⊎_elim
        (λ same. absurd (both_ways (takes_some p set (suc k)) none (takes_by (suc k) a (known a (taken_in p set (suc k) a h)) same)))
        (λ apart. taken_by_round p set p.atoms k a (omega arith) at.0 (omega (arith, at.1, apart)))
        (cases_eq (round_of p set a) (suc k))

    -- rounds are taken without a gap
    pub no_gap : (j k : ℕ) → 1 ≤ j → j ≤ k → takes_some p set k ≡ true → takes_some p set j ≡ true
    no_gap zero k low upto takes = absurd (omega arith)
    no_gap (suc j) k low upto takes =
        ⊎_elim (λ h. h)
        (λ none. let within = takes_within k takes in absurd (no_later j k (omega arith) (steady_by_takes j (omega arith) none) (omega arith) takes))
        (cases_Bool (takes_some p set (suc j)))

    -- no number is above the number of rounds that are needed
    pub round_within_needed : (a : ℕ) → round_of p set a ≤ rounds_needed p set
    round_within_needed a =
        let bound = round_bounded p set p.atoms a in
        ⊎_elim
        (λ some. let here = known a (taken_in p set (round_of p set a) a (taken_at (round_of p set a) a some refl)) in
        tally_reaches (takes_some p set) p.atoms (round_of p set a) bound (λ j low upto. no_gap j (round_of p set a) low upto (takes_by (round_of p set a) a here refl)))
        (λ none. omega (arith, none))
        (cases_lt 0 (round_of p set a))

    -- the last round that is needed takes an atom
    last_takes : 1 ≤ rounds_needed p set → takes_some p set (rounds_needed p set) ≡ true
    last_takes some =
        let fewer : takes_some p set (rounds_needed p set) ≡ false → rounds_needed p set ≤ rounds_needed p set - 1 =
        λ none. tally_upto (takes_some p set) p.atoms (rounds_needed p set - 1)
        (λ j above below. false_from_ne_true (takes_some p set j) (λ takes. both_ways (takes_some p set (rounds_needed p set)) none (no_gap (rounds_needed p set) j some (omega arith) takes))) in
        true_from_ne_false (takes_some p set (rounds_needed p set)) (λ none. omega (arith, some, fewer none))

    pub last_taker : 1 ≤ rounds_needed p set → (a : ℕ) × (set a ≡ true) × (round_of p set a ≡ rounds_needed p set)
    last_taker some =
        let found = taker (rounds_needed p set) (last_takes some) in
        (found.0, taken_in p set (rounds_needed p set) found.0 (taken_at (rounds_needed p set) found.0 some found.2), found.2)

  -- nothing is left over
  pub none_left : left_count p set ≡ 0 → Known p set → (a : ℕ) → set a ≡ true → taken p set p.atoms a ≡ true
  none_left none known a into =
      let place = within_parts p.atoms a (known a into) in
      ⊎_elim
      (λ out. absurd (both_ways (set a) out into))
      (λ e. not-false (taken p set p.atoms a) e)
      (and_cases (set a) (not (taken p set p.atoms a)) (tally_none (left_over p set) p.atoms none a place.0 place.1))

  -- some atom is left over
  pub some_left : (m : ℕ) → left_count p set ≡ suc m → (a : ℕ) × (set a ≡ true) × (taken p set p.atoms a ≡ false)
  some_left m some =
      let found = tally_some (left_over p set) p.atoms (omega (arith, some)) in
      let parts = and_parts (set found.0) (not (taken p set p.atoms found.0)) found.3 in
      (found.0, parts.0, not-true (taken p set p.atoms found.0) parts.1)
