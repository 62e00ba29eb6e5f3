-- The number of the round that takes an atom. Assumes nothing.
use Rattle.std.proofs.Common.{◌≡◌, ℕ, zero, suc, ◌+◌, ◌<◌, ◌≤◌, true, false, cond, eqb, refl, ◌∙◌, sym, subst, ⊎_elim, arith}
use Rattle.std.proofs.lemmas.Bool.{both_ways, cases_Bool, cases_eq, cases_lt, cond-false, cond-true, eq-eqb, false_from_ne_true, ne_eqb}
use Rattle.rules.specs.Program.{Program}
use Rattle.rules.specs.Stable.{Atoms}
use Rattle.rules.proofs.Tests.{lowest_bounded, lowest_least, lowest_passes}
use Rattle.rankings.specs.Rounds.{round_upto, taken}
use Rattle.rankings.proofs.Rounds.{steady, taken_later}

module _ (p : Program) (set : Atoms) where
  pub round_zero : (a : ℕ) → round_upto p set 0 a ≡ 0
  round_zero a = refl

  pub round_bounded : (last a : ℕ) → round_upto p set last a ≤ last
  round_bounded last a = lowest_bounded (λ k. taken p set k a) last

  -- the round by whose number the atom is taken
  pub taken_by_round : (last k a : ℕ) → k ≤ last → 1 ≤ round_upto p set last a → round_upto p set last a ≤ k → taken p set k a ≡ true
  taken_by_round last k a within some upto = taken_later p set (round_upto p set last a) k a upto (lowest_passes (λ k. taken p set k a) last some)

  pub round_of_taken : (last k a : ℕ) → k ≤ last → taken p set k a ≡ true → (1 ≤ round_upto p set last a) × (round_upto p set last a ≤ k)
  round_of_taken last zero a within h = absurd (both_ways false refl h)
  round_of_taken last (suc k) a within h = lowest_least (λ k. taken p set k a) last (suc k) (omega arith) within h

  pub round_untaken : (last a : ℕ) → taken p set last a ≡ false → round_upto p set last a ≡ 0
  round_untaken last a out =
      ⊎_elim
      (λ some. absurd (both_ways (taken p set last a) out (taken_by_round last last a (omega arith) some (round_bounded last a))))
      (λ none. omega (arith, none))
      (cases_lt 0 (round_upto p set last a))

  pub untaken_at_zero : (last a : ℕ) → round_upto p set last a ≡ 0 → taken p set last a ≡ false
  untaken_at_zero last a none = false_from_ne_true (taken p set last a) (λ h. absurd (omega (arith, none, (round_of_taken last last a (omega arith) h).0)))

  -- an atom has one number in two counts of rounds, where both take it if the longer does
  pub round_same : (k last a : ℕ) → k ≤ last → (taken p set last a ≡ true → taken p set k a ≡ true) → round_upto p set last a ≡ round_upto p set k a
  round_same k last a within back =
      ⊎_elim
      (λ h. let long = round_of_taken last k a within (back h) in
      let short = round_of_taken k k a (omega arith) (back h) in
      let down = round_of_taken last (round_upto p set k a) a (omega (arith, short, within)) (taken_by_round k (round_upto p set k a) a short.1 short.0 (omega arith)) in
      let up = round_of_taken k (round_upto p set last a) a long.1 (taken_by_round last (round_upto p set last a) a (round_bounded last a) long.0 (omega arith)) in
      omega (arith, down.1, up.1))
      (λ out. round_untaken last a out ∙ sym (round_untaken k a (false_from_ne_true (taken p set k a) (λ h. both_ways (taken p set last a) out (taken_later p set k last a within h)))))
      (cases_Bool (taken p set last a))

  -- where the round after the first k takes nothing new, the numbers up to a later round are those up to k
  pub round_steady : (k last a : ℕ) → k ≤ last → ((b : ℕ) → taken p set (suc k) b ≡ true → taken p set k b ≡ true) → round_upto p set last a ≡ round_upto p set k a
  round_steady k last a within still = round_same k last a within (steady p set k still last a)

  -- an atom that the first rounds do not take, after one more
  round_next : (last next a : ℕ) → next ≡ last + 1 → taken p set last a ≡ false → round_upto p set next a ≡ cond (taken p set next a) next 0
  round_next last next a more out =
      ⊎_elim
      (λ h. let found = round_of_taken next next a (omega arith) h in
      let late : last < round_upto p set next a = ⊎_elim (λ l. l) (λ early. absurd (both_ways (taken p set last a) out (taken_by_round next last a (omega (arith, more)) found.0 early))) (cases_lt last (round_upto p set next a)) in
      let same : round_upto p set next a ≡ next = omega (arith, found.1, late, more) in
      same ∙ sym (cond-true (taken p set next a) next 0 h))
      (λ none. round_untaken next a none ∙ sym (cond-false (taken p set next a) next 0 none))
      (cases_Bool (taken p set next a))

  -- one more round: the number stays where it is not 0, else it is that of the round if that takes the atom
  pub round_more : (last a : ℕ) → round_upto p set (last + 1) a ≡ cond (eqb (round_upto p set last a) 0) (cond (taken p set (suc last) a) (last + 1) 0) (round_upto p set last a)
  round_more last a =
      let now = round_upto p set last a in
      let next : suc last ≡ last + 1 = omega arith in
      ⊎_elim
      (λ none. subst (λ n. round_upto p set n a ≡ cond (eqb now 0) (cond (taken p set (suc last) a) n 0) now) next
      (round_next last (suc last) a next (untaken_at_zero last a none) ∙ sym (cond-true (eqb now 0) (cond (taken p set (suc last) a) (suc last) 0) now (eq-eqb now 0 none))))
      (λ some. round_same last (last + 1) a (omega arith) (λ _. taken_by_round last last a (omega arith) (omega (arith, some)) (round_bounded last a))
      ∙ sym (cond-false (eqb now 0) (cond (taken p set (suc last) a) (last + 1) 0) now (ne_eqb now 0 some)))
      (cases_eq now 0)
