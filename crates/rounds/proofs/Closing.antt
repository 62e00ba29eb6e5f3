-- A round that has asked all its rules is over, and the next one begins. Assumes nothing.
use Rattle.std.proofs.Common.{◌≡◌, ℕ, suc, ◌+◌, ◌≤◌, Bool, true, false, cond, eqb, leb, ◌==◌, List, is_some, Some, ◌≢◌, sym, refl, ap, ◌∙◌, subst, inl, inr, ⊎_elim, arith}
use Rattle.std.proofs.Math.Path.{fun_ext}
use Rattle.std.proofs.lemmas.Bool.{and_from, and_parts, both_ways, cases_Bool, cases_eq, cond-false, cond-true, eq-eqb, eqb-true, false_from_ne_true, le-leb, ne_eqb}
use Rattle.rules.specs.Program.{Rule, Program}
use Rattle.rules.specs.Questions.{rule_at}
use Rattle.rules.specs.Stable.{Atoms, supports, supports_with}
use Rattle.rules.specs.Tests.{lowest}
use Rattle.rules.proofs.Parts.{each_rule}
use Rattle.rules.proofs.Tests.{given_by_any, lowest_some, some_from_lowest, within_parts}
use Rattle.tables.specs.Entries.{table_of}
use Rattle.rankings.specs.Laws.{Known}
use Rattle.rankings.specs.Rounds.{round_of, round_upto, taken, takes_some}
use Rattle.rankings.proofs.Numbers.{round_bounded, round_more, round_same, round_untaken, taken_by_round}
use Rattle.rankings.proofs.Rounds.{taken_in, taken_later}
use Rattle.rankings.proofs.Supported.{supports_parts, supports_with_parts}
use Rattle.waiting.specs.Waiting.{any_under}
use Rattle.rounds.specs.Progress.{Placed, Progress}
use Rattle.rounds.specs.Taking.{number_in}
use Rattle.rounds.proofs.Tables.{table_of_numbers}
use Rattle.rounds.proofs.Waits.{at_from_all}

same_truth : (x y : Bool) → (x ≡ true → y ≡ true) → (y ≡ true → x ≡ true) → x ≡ y
same_truth true y there back = sym (there refl)
same_truth false y there back = sym (false_from_ne_true y (λ t. both_ways false refl (back t)))

-- the number that one round more gives
module _ (p : Program) (set : Atoms) (last b : ℕ) where
  next_number : round_upto p set (suc last) b ≡ cond (eqb (round_upto p set last b) 0) (cond (taken p set (suc last) b) (suc last) 0) (round_upto p set last b)
  next_number = let next : last + 1 ≡ suc last = omega arith in subst (λ n. round_upto p set n b ≡ cond (eqb (round_upto p set last b) 0) (cond (taken p set (suc last) b) n 0) (round_upto p set last b)) next (round_more p set last b)

  next_stays : round_upto p set last b ≢ 0 → round_upto p set (suc last) b ≡ round_upto p set last b
  next_stays some = next_number ∙ cond-false (eqb (round_upto p set last b) 0) (cond (taken p set (suc last) b) (suc last) 0) (round_upto p set last b) (ne_eqb (round_upto p set last b) 0 some)

  next_new : round_upto p set last b ≡ 0 → taken p set (suc last) b ≡ true → round_upto p set (suc last) b ≡ suc last
  next_new none t =
      next_number
      ∙ cond-true (eqb (round_upto p set last b) 0) (cond (taken p set (suc last) b) (suc last) 0) (round_upto p set last b) (eq-eqb (round_upto p set last b) 0 none)
      ∙ cond-true (taken p set (suc last) b) (suc last) 0 t

module _ (p : Program) (set : Atoms) (last : ℕ) (waiting coming position : ℕ → ℕ) (rounds : List ℕ) (now : Progress p set last 0 0 waiting coming position rounds) (none_due : (b : ℕ) → coming b ≡ suc last → ⊥) where
  -- a rule that supports an atom with all positive atoms taken before this round has its head taken
  takes_head : (b : ℕ) → number_in rounds b ≡ 0 → (k : ℕ) (r : Rule) → rule_at p k ≡ Some r → 1 ≤ k → supports_with (taken p set last) set b r ≡ true → ⊥
  takes_head b none k r found some h =
      let parts = supports_with_parts set b r (taken p set last) h in
      let head : r.head ≡ b = (supports_parts set b r parts.0).0 in
      let supporting : supports set r.head r ≡ true = ap (λ c. supports set c r) head ∙ parts.0 in
      ⊎_elim
      (λ numbered. numbered (ap (number_in rounds) head ∙ none))
      (λ rest. ⊎_elim
      (λ blocked. both_ways (taken p set last (waiting k)) blocked.2 (at_from_all (taken p set last) r.positive parts.1 blocked.0 (waiting k) blocked.1))
      (λ left. ⊎_elim (λ due. none_due (waiting k) due) (λ zero. absurd (omega (arith, left.0, zero))) left.1)
      rest)
      (now.placed k r found supporting (λ zero. absurd (omega (arith, some, zero))))

  -- an atom without a number is not taken by this round
  not_taken : (b : ℕ) → number_in rounds b ≡ 0 → taken p set (suc last) b ≡ true → ⊥
  not_taken b none h =
      given_by_any (supports_with (taken p set last) set b) p.rules h
      (each_rule (λ r. supports_with (taken p set last) set b r ≡ true → ⊥) p (λ k r found some within. takes_head b none k r found some))

  pub all_numbers : (b : ℕ) → number_in rounds b ≡ round_upto p set (suc last) b
  all_numbers b =
      ⊎_elim
      (λ same. ⊎_elim
      (λ none. same ∙ none ∙ sym (round_untaken p set (suc last) b (false_from_ne_true (taken p set (suc last) b) (not_taken b (same ∙ none)))))
      (λ some. same ∙ sym (next_stays p set last b some))
      (cases_eq (round_upto p set last b) 0))
      (λ new. new.1 ∙ sym (next_new p set last b new.0 new.2))
      (now.numbers b)

  pub all_in_table : rounds ≡ table_of (round_upto p set (suc last)) p.atoms
  all_in_table = table_of_numbers rounds p.atoms now.sized ∙ ap (λ f. table_of f p.atoms) (fun_ext all_numbers)

  module _ (known : Known p set) where
    -- an atom that a rule waits for, and that this round took
    due_next : (atom : ℕ) → taken p set last atom ≡ false → taken p set (suc last) atom ≡ true → (1 ≤ atom) × (coming atom ≡ suc (suc last))
    due_next atom before after = (
      (within_parts p.atoms atom (known atom (taken_in p set (suc last) atom after))).0,
      now.taken_coming atom (all_numbers atom ∙ next_new p set last atom (round_untaken p set last atom before) after),
    )

    moved : (atom : ℕ) (r : Rule) → Placed p set last rounds coming 0 atom r → Placed p set (suc last) rounds coming 0 atom r
    moved atom r placed =
        ⊎_elim inl
        (λ rest. inr (⊎_elim
        (λ blocked. ⊎_elim
        (λ t. let due = due_next atom blocked.2 t in inr (due.0, inl due.1))
        (λ f. inl (blocked.0, blocked.1, f))
        (cases_Bool (taken p set (suc last) atom)))
        (λ left. ⊎_elim (λ due. absurd (none_due atom due)) (λ zero. absurd (omega (arith, left.0, zero))) left.1)
        rest))
        placed

    pub next_round : Progress p set (suc last) 0 0 waiting coming position rounds
    next_round = record {
      sized = now.sized;
      numbers = λ b. inl (all_numbers b);
      begun = λ k h. let begun = now.begun k h in record {
        rule = begun.rule;
        there = begun.there;
        behind = λ i b below at. ⊎_elim (λ t. inl (taken_later p set last (suc last) b (omega arith) t)) inr (begun.behind i b below at);
      };
      asked_begun = λ some. absurd (omega (arith, some));
      placed = λ k r found supporting apart. moved (waiting k) r (now.placed k r found supporting apart);
      asked_free = now.asked_free;
      now_early = λ some. absurd (omega (arith, some));
      coming_early = λ b due. inr (omega (arith, now.coming_taken b due), omega (arith, now.coming_taken b due));
      coming_bounded = λ b. omega (arith, now.coming_bounded b);
      coming_taken = λ b late. absurd (omega (arith, late, now.coming_bounded b));
      taken_coming = λ b late. absurd (omega (arith, late, all_numbers b, round_bounded p set (suc last) b));
      coming_free = now.coming_free;
    }

    module _ (within : suc last ≤ p.atoms) where
      -- an atom has the number of this round exactly where this round takes it
      its_round : (b : ℕ) → number_in rounds b ≡ suc last → round_of p set b ≡ suc last
      its_round b is =
          let upto : round_upto p set (suc last) b ≡ suc last = sym (all_numbers b) ∙ is in
          round_same p set (suc last) p.atoms b within (λ _. taken_by_round p set (suc last) (suc last) b (omega arith) (omega (arith, upto)) (omega (arith, upto))) ∙ upto

      its_number : (b : ℕ) → round_of p set b ≡ suc last → number_in rounds b ≡ suc last
      its_number b is =
          let t : taken p set (suc last) b ≡ true = taken_by_round p set p.atoms (suc last) b within (omega (arith, is)) (omega (arith, is)) in
          all_numbers b ∙ sym (round_same p set (suc last) p.atoms b within (λ _. t)) ∙ is

      atom_of : (b : ℕ) → number_in rounds b ≡ suc last → (1 ≤ b) × (b ≤ p.atoms)
      atom_of b is =
          let upto : round_upto p set (suc last) b ≡ suc last = sym (all_numbers b) ∙ is in
          within_parts p.atoms b (known b (taken_in p set (suc last) b (taken_by_round p set (suc last) (suc last) b (omega arith) (omega (arith, upto)) (omega (arith, upto)))))

      -- an atom's rules are due in the next round exactly where this round takes some atom
      pub takes_when_due : p.atoms ≤ 4096 → any_under 4098 coming (suc (suc last)) ≡ takes_some p set (suc last)
      takes_when_due few =
          same_truth (any_under 4098 coming (suc (suc last))) (takes_some p set (suc last))
          (λ h. let found = some_from_lowest (λ b. coming b == suc (suc last)) 4097 (and_parts (leb 1 (suc (suc last))) (is_some (lowest (λ b. coming b == suc (suc last)) 4097)) h).1 in
          let is = now.coming_taken found.0 (eqb-true (coming found.0) (suc (suc last)) found.3) in
          let place = atom_of found.0 is in
          lowest_some (λ b. round_of p set b == suc last) p.atoms found.0 place.0 place.1 (eq-eqb (round_of p set found.0) (suc last) (its_round found.0 is)))
          (λ h. let found = some_from_lowest (λ b. round_of p set b == suc last) p.atoms h in
          let is = its_number found.0 (eqb-true (round_of p set found.0) (suc last) found.3) in
          and_from (leb 1 (suc (suc last))) (is_some (lowest (λ b. coming b == suc (suc last)) 4097)) (le-leb 1 (suc (suc last)) (omega arith))
          (lowest_some (λ b. coming b == suc (suc last)) 4097 found.0 found.1 (omega (arith, found.2, few)) (eq-eqb (coming found.0) (suc (suc last)) (now.taken_coming found.0 is))))
