-- How settle ends where no table is refused and no rule is broken, by the table of all rounds. Assumes nothing.
use Rattle.std.proofs.Common.{◌≡◌, ℕ, ◌<◌, ◌≤◌, Bool, true, false, cond, not, ◌&&◌, ◌==◌, eqb, ltb, List, Some, Ok, Err, Option, sym, refl, ap, ◌∙◌, ⊎_elim, arith}
use Rattle.std.proofs.Math.Path.{fun_ext}
use Rattle.std.proofs.lemmas.Bool.{both_ways, cases_Bool, cond-false, cond-true, eq-eqb, false_from_ne_true, le-ltb, lt-ltb, ne_eqb}
use Rattle.refusal.specs.Refused.{refused}
use Rattle.refusal.specs.declared.Reason.TheVariants.{Rounds}
use Rattle.refusal.specs.declared.Layer.TheVariants.{Survey}
use Rattle.rules.specs.Program.{Program}
use Rattle.rules.specs.Tests.{tally}
use Rattle.tables.specs.Entries.{table_of}
use Rattle.levels.specs.Table.{level_of}
use Rattle.marks.specs.Marks.{byte_of, in_byte, marked, sifted}
use Rattle.rankings.specs.Laws.{Known}
use Rattle.rankings.specs.Rounds.{left_count, round_of, rounds_needed, taken}
use Rattle.rankings.proofs.Needed.{none_left, round_within_needed}
use Rattle.rankings.proofs.Numbers.{round_of_taken, round_untaken}
use Rattle.rankings.proofs.Rounds.{taken_in}
use Rattle.settlement.specs.Settle.{Settled, all_rounds, by_left, by_rungs, ranked_entries, sifted_marks}
use Rattle.rounds.specs.Taking.{number_in}
use Rattle.settlement.specs.declared.Settlement.TheVariants.{Looped, Ranked}
use Rattle.settlement.proofs.Cases.{Worked, at_left, outcome}
use Rattle.settlement.proofs.Laws.{known_where}
use Rattle.rounds.proofs.Numbers.{number_upto}

-- only for a marked atom does it count whether it is left over
sifted_in : (left : Bool) (b : ℕ) → sifted left b ≡ sifted (in_byte b && left) b
sifted_in left b = elim (in_byte b) as (λ t. cond t (cond left 2 1) b ≡ cond t (cond (t && left) 2 1) b) [ true ↦ refl | false ↦ refl ]

module _ {L : Type 0} (count : ℕ) (rung : ℕ → L) (p : Program) (marks : List ℕ) (entries : List (Option L)) (rounds : List ℕ) (worked : Worked count rung p marks entries rounds) where
  abbrev set : ℕ → Bool
  set = marked marks

  known : Known p set
  known = known_where count rung p marks entries rounds worked

  module _ (after : List ℕ) (all : after ≡ table_of (round_of p set) p.atoms) where
    number_after : (a : ℕ) → number_in after a ≡ round_of p set a
    number_after a = ap (λ xs. number_in xs a) all ∙ number_upto p set known p.atoms a

    number_taken : (a : ℕ) → taken p set p.atoms a ≡ true → 1 ≤ number_in after a
    number_taken a h = omega (arith, number_after a, (round_of_taken p set p.atoms p.atoms a (omega arith) h).0)

    number_untaken : (a : ℕ) → taken p set p.atoms a ≡ false → number_in after a ≡ 0
    number_untaken a out = number_after a ∙ round_untaken p set p.atoms a out

    -- no round took the atom
    untaken_after : (a : ℕ) → eqb (number_in after a) 0 ≡ not (taken p set p.atoms a)
    untaken_after a =
        ⊎_elim
        (λ h. ne_eqb (number_in after a) 0 (λ z. omega (arith, number_taken a h)) ∙ sym (ap not h))
        (λ out. eq-eqb (number_in after a) 0 (number_untaken a out) ∙ sym (ap not out))
        (cases_Bool (taken p set p.atoms a))

    pub left_counted : tally (λ a. set a && number_in after a == 0) p.atoms ≡ left_count p set
    left_counted = ap (λ test. tally test p.atoms) (fun_ext (λ a. ap (λ t. set a && t) (untaken_after a)))

    pub marks_sifted : table_of (λ a. sifted (number_in after a == 0) (byte_of marks a)) p.atoms ≡ sifted_marks count rung p (marked marks) marks entries
    marks_sifted = ap (λ f. table_of f p.atoms) (fun_ext (λ a. ap (λ t. sifted t (byte_of marks a)) (untaken_after a) ∙ sifted_in (not (taken p set p.atoms a)) (byte_of marks a)))

    pub few_rounds : rounds_needed p set ≤ count → (a : ℕ) → number_in after a ≤ count
    few_rounds few a = omega (arith, few, number_after a, round_within_needed p set known a)

    module _ (none : left_count p set ≡ 0) (a : ℕ) where
      abbrev ranked : Option L
      ranked = Some (rung (round_of p set a))

      entry_after : cond (number_in after a == 0) (level_of entries a) (Some (rung (number_in after a))) ≡ cond (set a) ranked (level_of entries a)
      entry_after =
          ⊎_elim
          (λ into.
          cond-false (number_in after a == 0) (level_of entries a) (Some (rung (number_in after a))) (ne_eqb (number_in after a) 0 (λ z. omega (arith, number_taken a (none_left p set none known a into))))
          ∙ ap (λ m. Some (rung m)) (number_after a)
          ∙ sym (cond-true (set a) ranked (level_of entries a) into))
          (λ out.
          cond-true (number_in after a == 0) (level_of entries a) (Some (rung (number_in after a))) (eq-eqb (number_in after a) 0 (number_untaken a (false_from_ne_true (taken p set p.atoms a) (λ h. both_ways (set a) out (taken_in p set p.atoms a h)))))
          ∙ sym (cond-false (set a) ranked (level_of entries a) out))
          (cases_Bool (set a))

    pub entries_ranked : left_count p set ≡ 0 → table_of (λ a. cond (number_in after a == 0) (level_of entries a) (Some (rung (number_in after a)))) p.atoms ≡ ranked_entries count rung p (marked marks) marks entries
    entries_ranked none = ap (λ f. table_of f p.atoms) (fun_ext (entry_after none))

  -- THE OUTCOME

  abbrev atoms_left : ℕ → Settled L
  atoms_left m = record { answer = Ok (Looped m); marks = sifted_marks count rung p (marked marks) marks entries; entries = entries; rounds = all_rounds count rung p (marked marks) marks entries }

  abbrev rungs_lack : ℕ → Settled L
  rungs_lack k = record { answer = Err (refused Survey Rounds k); marks = marks; entries = entries; rounds = all_rounds count rung p (marked marks) marks entries }

  abbrev all_ranked : ℕ → Settled L
  all_ranked k = record { answer = Ok (Ranked k); marks = marks; entries = ranked_entries count rung p (marked marks) marks entries; rounds = all_rounds count rung p (marked marks) marks entries }

  pub ends_looped : (m : ℕ) → m ≡ left_count p set → 0 < m → outcome count rung p marks entries rounds ≡ atoms_left m
  ends_looped m is some =
      at_left count rung p marks entries rounds worked
      ∙ ap (by_left count rung p (marked marks) marks entries) (sym is)
      ∙ cond-false (eqb m 0) (by_rungs count rung p (marked marks) marks entries (rounds_needed p set)) (atoms_left m) (ne_eqb m 0 (λ z. omega arith))

  module _ (k : ℕ) (needed : k ≡ rounds_needed p set) (none : left_count p set ≡ 0) where
    at_rungs : outcome count rung p marks entries rounds ≡ by_rungs count rung p (marked marks) marks entries k
    at_rungs = at_left count rung p marks entries rounds worked ∙ ap (by_left count rung p (marked marks) marks entries) none ∙ ap (by_rungs count rung p (marked marks) marks entries) (sym needed)

    pub ends_refused : count < k → outcome count rung p marks entries rounds ≡ rungs_lack k
    ends_refused above = at_rungs ∙ cond-true (ltb count k) (rungs_lack k) (all_ranked k) (lt-ltb count k above)

    pub ends_ranked : k ≤ count → outcome count rung p marks entries rounds ≡ all_ranked k
    ends_ranked within = at_rungs ∙ cond-false (ltb count k) (rungs_lack k) (all_ranked k) (le-ltb count k within)
