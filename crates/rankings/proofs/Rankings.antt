-- Strict rankings against rounds: the number of an atom is the round that takes it. Assumes nothing.
use Rattle.std.proofs.Common.{◌≡◌, ℕ, zero, suc, ◌+◌, ◌-◌, ◌≤◌, ⊎_elim, Bool, true, false, ◌&&◌, eqb, refl, arith}
use Rattle.std.specs.List.{AllByRecursion}
use Rattle.std.proofs.ByRecursion.{All-weaker}
use Rattle.std.proofs.lemmas.Bool.{and_from, and_parts, both_ways, cases_lt, eq-eqb, eqb-true}
use Rattle.rules.specs.Program.{Rule, Program}
use Rattle.rules.specs.Stable.{Atoms, supports, supports_with}
use Rattle.rules.specs.Tests.{any}
use Rattle.rules.proofs.Tests.{all_both, all_from_each, any_grows, any_weaker, each_from_all, given_by_any}
use Rattle.rankings.specs.Rounds.{taken, round_of}
use Rattle.rankings.specs.Ranking.{StrictRanking, greatest}
use Rattle.rankings.specs.Laws.{Known, OneRanking}
use Rattle.rankings.proofs.Greatest.{each_upto_greatest, greatest_upto}
use Rattle.rankings.proofs.Rounds.{taken_in, enough}
use Rattle.rankings.proofs.Numbers.{round_bounded, taken_by_round, round_of_taken}
use Rattle.rankings.proofs.Supported.{Listed, each_listed, positive_from_body, supports_parts, supports_with_from, supports_with_parts}

module _ (set : Atoms) (number : ℕ → ℕ) (a : ℕ) (r : Rule) where
  -- the rule supports the atom, whose number is one more than the greatest in the positive part
  abbrev pub reaches : Bool
  reaches = supports set a r && eqb (number a) (greatest number r.positive + 1)

  -- where the rule supports the atom, that number is no more than this
  abbrev pub AtMostReached : Type 0
  AtMostReached = supports set a r ≡ true → number a ≤ greatest number r.positive + 1

  pub reaches_from : supports set a r ≡ true → number a ≡ greatest number r.positive + 1 → reaches ≡ true
  reaches_from e exact = and_from (supports set a r) (eqb (number a) (greatest number r.positive + 1)) e (eq-eqb (number a) (greatest number r.positive + 1) exact)

  pub reaches_parts : reaches ≡ true → (supports set a r ≡ true) × (number a ≡ greatest number r.positive + 1)
  reaches_parts e =
      let parts = and_parts (supports set a r) (eqb (number a) (greatest number r.positive + 1)) e in
      (parts.0, eqb-true (number a) (greatest number r.positive + 1) parts.1)

  -- a rule that supports the atom does so with a test that each atom of the set passes whose number is at most the greatest in the positive part
  pub supports_low : (test : ℕ → Bool) → ((b : ℕ) → set b ≡ true → number b ≤ greatest number r.positive → test b ≡ true) → supports set a r ≡ true → supports_with test set a r ≡ true
  supports_low test low e =
      supports_with_from set a r test e
      (all_from_each test r.positive
      (All-weaker (λ b. (set b ≡ true) × (number b ≤ greatest number r.positive)) (λ b. test b ≡ true) (λ b h. low b h.0 h.1) r.positive
      (all_both (λ b. set b ≡ true) (λ b. number b ≤ greatest number r.positive) r.positive (each_from_all set r.positive (positive_from_body set r (supports_parts set a r e).2)) (each_upto_greatest number r.positive))))

  -- where the atoms that pass a test have numbers of at most k, the greatest in the positive part of a rule that supports with it is at most k
  low_from_supports : (k : ℕ) (test : ℕ → Bool) → ((b : ℕ) → test b ≡ true → number b ≤ k) → supports_with test set a r ≡ true → greatest number r.positive ≤ k
  low_from_supports k test low e =
      greatest_upto number k r.positive (All-weaker (λ b. test b ≡ true) (λ b. number b ≤ k) low r.positive (each_from_all test r.positive (supports_with_parts set a r test e).1))

module _ (p : Program) (set : Atoms) (number : ℕ → ℕ) (strict : StrictRanking p set number) where
  pub number_some : (a : ℕ) → set a ≡ true → 1 ≤ number a
  number_some a into =
      given_by_any (reaches set number a) p.rules (strict.reached a into)
      (All-weaker (AtMostReached set number a) (λ r. reaches set number a r ≡ true → 1 ≤ number a) (λ r _ e. omega (arith, (reaches_parts set number a r e).1)) p.rules (strict.least a into))

  -- an atom of the set with a number of at most k is taken by the first k rounds
  pub numbered_taken : (k a : ℕ) → set a ≡ true → number a ≤ k → taken p set k a ≡ true
  numbered_taken zero a into low = absurd (omega (arith, number_some a into))
  numbered_taken (suc k) a into low =
      any_grows (reaches set number a) (supports_with (taken p set k) set a)
      (λ r e. let parts = reaches_parts set number a r e in
      let exact : number a ≡ greatest number r.positive + 1 = parts.1 in
      supports_low set number a r (taken p set k) (λ b in' upto. numbered_taken k b in' (omega arith)) parts.0)
      p.rules (strict.reached a into)

  -- an atom that the first k rounds take has a number of at most k
  pub taken_numbered : (k a : ℕ) → taken p set k a ≡ true → number a ≤ k
  taken_numbered zero a e = absurd (both_ways false refl e)
  taken_numbered (suc k) a e =
      given_by_any (supports_with (taken p set k) set a) p.rules e
      (All-weaker (AtMostReached set number a) (λ r. supports_with (taken p set k) set a r ≡ true → number a ≤ suc k)
      (λ r at_most s. let low : greatest number r.positive ≤ k = low_from_supports set number a r k (taken p set k) (taken_numbered k) s in
      omega (arith, at_most (supports_with_parts set a r (taken p set k) s).0))
      p.rules (strict.least a (taken_in p set (suc k) a e)))

pub one_ranking : (p : Program) → OneRanking p
one_ranking p set number other strict strict_too a into =
    let upto : number a ≤ other a = taken_numbered p set number strict (other a) a (numbered_taken p set other strict_too (other a) a into (omega arith)) in
    let from : other a ≤ number a = taken_numbered p set other strict_too (number a) a (numbered_taken p set number strict (number a) a into (omega arith)) in
    omega arith

module _ (p : Program) (set : Atoms) (each_taken : (a : ℕ) → set a ≡ true → taken p set p.atoms a ≡ true) where
  -- the first k rounds take an atom of the set whose round is at most k
  taken_then : (k : ℕ) → k ≤ p.atoms → (b : ℕ) → set b ≡ true → round_of p set b ≤ k → taken p set k b ≡ true
  taken_then k within b into low = taken_by_round p set p.atoms k b within (round_of_taken p set p.atoms p.atoms b (omega arith) (each_taken b into)).0 low

  -- the round of an atom is at most one after the greatest in the positive part of a rule that supports it
  round_least : (a : ℕ) (r : Rule) → Listed p.rules r → AtMostReached set (round_of p set) a r
  round_least a r listed e =
      let top : ℕ = greatest (round_of p set) r.positive in
      ⊎_elim
      (λ within. let next : taken p set (suc top) a ≡ true = listed (supports_with (taken p set top) set a) (supports_low set (round_of p set) a r (taken p set top) (taken_then top (omega arith)) e) in
      omega (arith, (round_of_taken p set p.atoms (suc top) a (omega arith) next).1))
      (λ past. omega (arith, round_bounded p set p.atoms a))
      (cases_lt top p.atoms)

  each_least : (a : ℕ) → AllByRecursion (AtMostReached set (round_of p set) a) p.rules
  each_least a = All-weaker (Listed p.rules) (AtMostReached set (round_of p set) a) (round_least a) p.rules (each_listed p.rules)

  round_reached : (k a : ℕ) → round_of p set a ≡ suc k → set a ≡ true → any (reaches set (round_of p set) a) p.rules ≡ true
  round_reached k a e into =
      let within : suc k ≤ p.atoms = omega (arith, round_bounded p set p.atoms a) in
      any_weaker (supports_with (taken p set k) set a) (reaches set (round_of p set) a) p.rules
      (All-weaker (AtMostReached set (round_of p set) a) (λ r. supports_with (taken p set k) set a r ≡ true → reaches set (round_of p set) a r ≡ true)
      (λ r at_most s. let supported : supports set a r ≡ true = (supports_with_parts set a r (taken p set k) s).0 in
      let low : greatest (round_of p set) r.positive ≤ k = low_from_supports set (round_of p set) a r k (taken p set k) (λ b t. (round_of_taken p set p.atoms k b (omega arith) t).1) s in
      reaches_from set (round_of p set) a r supported (omega (arith, at_most supported)))
      p.rules (each_least a))
      (taken_then (suc k) within a into (omega arith))

  -- where the rounds take each atom of the set, the rounds are a strict ranking
  pub rounds_rank : StrictRanking p set (round_of p set)
  rounds_rank = record {
    reached = λ a into. let some : 1 ≤ round_of p set a = (round_of_taken p set p.atoms p.atoms a (omega arith) (each_taken a into)).0 in
        round_reached (round_of p set a - 1) a (omega arith) into;
    least = λ a into. each_least a;
  }

module _ (p : Program) (set : Atoms) (number : ℕ → ℕ) (known : Known p set) (strict : StrictRanking p set number) (a : ℕ) (into : set a ≡ true) where
  -- where a strict ranking exists, the rounds take each atom of the set
  pub ranked_taken : taken p set p.atoms a ≡ true
  ranked_taken = enough p set known (number a) a (numbered_taken p set number strict (number a) a into (omega arith))

-- a strict ranking gives each atom of the set its round
pub ranking_is_round : (p : Program) (set : Atoms) (number : ℕ → ℕ) → Known p set → StrictRanking p set number → (a : ℕ) → set a ≡ true → number a ≡ round_of p set a
ranking_is_round p set number known strict = one_ranking p set number (round_of p set) strict (rounds_rank p set (ranked_taken p set number known strict))
