-- The marks that settle leaves: they mark the same atoms, lawful bytes stay lawful, and where atoms are left over those are doubted. Assumes nothing.
use Rattle.std.proofs.Common.{◌≡◌, ℕ, ◌≤◌, Bool, true, false, cond, not, eqb, List, length, None, Some, Ok, Option, sym, refl, ap, ◌∙◌, ◌⊎◌, inl, inr, ⊎_elim, arith}
use Rattle.std.proofs.lemmas.Bool.{and_parts, both_ways, cases_Bool, cond_both, false_from_ne_true, not-false, not_from_true, or_parts}
use Rattle.std.proofs.lemmas.List.FromFn.{length-map-range_with_len}
use Rattle.refusal.specs.Results.{err_not_ok}
use Rattle.refusal.specs.Tables.{length_checked}
use Rattle.refusal.proofs.Checks.{both_passed, length_passed}
use Rattle.rules.specs.Program.{Program}
use Rattle.rules.proofs.Tests.{lowest_none, none_from_lowest}
use Rattle.tables.specs.Entries.{table_of}
use Rattle.marks.specs.Calls.{bytes_checked}
use Rattle.marks.specs.Marks.{byte_of, doubted, doubted_byte, in_byte, lawful_byte, lowest_unlawful, marked, sifted}
use Rattle.marks.proofs.Marked.{doubted_marked, marked_above, marked_upto}
use Rattle.marks.proofs.Tables.{byte_of_table}
use Rattle.rankings.specs.Rounds.{left_over, taken}
use Rattle.settlement.proofs.Cases.{LoopedCase, Worked, all_cases, outcome, worked_cases}

-- ONE BYTE

module _ (left : Bool) (b : ℕ) where
  -- a test of a sifted byte, by whether the byte says that its atom is in
  by_in : (test : ℕ → Bool) (P : Bool → Type 0) → (in_byte b ≡ true → P (test (cond left 2 1))) → (in_byte b ≡ false → P (test b)) → P (test (sifted left b))
  by_in test P here out = cond_both (in_byte b) (cond left 2 1) b (λ x. P (test x)) here out

  in_sifted : in_byte (sifted left b) ≡ in_byte b
  in_sifted = by_in in_byte (λ t. t ≡ in_byte b) (λ h. elim left as (λ l. in_byte (cond l 2 1) ≡ in_byte b) [ true ↦ sym h | false ↦ sym h ]) (λ h. refl)

  doubted_sifted : (left ≡ true → in_byte b ≡ true) → doubted_byte (sifted left b) ≡ left
  doubted_sifted left_in =
      by_in doubted_byte (λ t. t ≡ left) (λ h. elim left as (λ l. doubted_byte (cond l 2 1) ≡ l) [ true ↦ refl | false ↦ refl ])
      (λ h. (or_parts (eqb b 1) (eqb b 2) h).1 ∙ sym (false_from_ne_true left (λ l. both_ways (in_byte b) h (left_in l))))

  lawful_sifted : lawful_byte b ≡ true → lawful_byte (sifted left b) ≡ true
  lawful_sifted lawful = by_in lawful_byte (λ t. t ≡ true) (λ h. elim left as (λ l. lawful_byte (cond l 2 1) ≡ true) [ true ↦ refl | false ↦ refl ]) (λ h. lawful)

-- THE TABLE

-- two tests that hold of atoms of the program alone, and are the same of each of these
same_tests : (test other : ℕ → Bool) (n : ℕ) → ((a : ℕ) → test a ≡ true → (1 ≤ a) × (a ≤ n)) → ((a : ℕ) → other a ≡ true → (1 ≤ a) × (a ≤ n)) → ((a : ℕ) → 1 ≤ a → a ≤ n → test a ≡ other a) → (a : ℕ) → test a ≡ other a
same_tests test other n test_in other_in same a =
    ⊎_elim
    (λ t. let place = test_in a t in same a place.0 place.1)
    (λ f. f ∙ sym (false_from_ne_true (other a) (λ o. let place = other_in a o in both_ways (test a) f (same a place.0 place.1 ∙ o))))
    (cases_Bool (test a))

module _ (p : Program) (marks : List ℕ) (sized : length marks ≡ p.atoms) where
  abbrev sifted_table : List ℕ
  sifted_table = table_of (λ a. sifted (left_over p (marked marks) a) (byte_of marks a)) p.atoms

  long : length sifted_table ≡ p.atoms
  long = length-map-range_with_len (λ a. sifted (left_over p (marked marks) a) (byte_of marks a)) 1 p.atoms

  byte_sifted : (a : ℕ) → 1 ≤ a → a ≤ p.atoms → byte_of sifted_table a ≡ sifted (left_over p (marked marks) a) (byte_of marks a)
  byte_sifted = byte_of_table (λ a. sifted (left_over p (marked marks) a) (byte_of marks a)) p.atoms

  left_marked : (a : ℕ) → left_over p (marked marks) a ≡ true → marked marks a ≡ true
  left_marked a l = (and_parts (marked marks a) (not (taken p (marked marks) p.atoms a)) l).0

  marked_place : (a : ℕ) → marked marks a ≡ true → (1 ≤ a) × (a ≤ p.atoms)
  marked_place a into = (marked_above marks a into, omega (arith, marked_upto marks a into))

  marked_place_after : (a : ℕ) → marked sifted_table a ≡ true → (1 ≤ a) × (a ≤ p.atoms)
  marked_place_after a into = (marked_above sifted_table a into, omega (arith, long, marked_upto sifted_table a into))

  same_marked : (a : ℕ) → marked sifted_table a ≡ marked marks a
  same_marked =
      same_tests (marked sifted_table) (marked marks) p.atoms marked_place_after marked_place
      (λ a low high. ap in_byte (byte_sifted a low high) ∙ in_sifted (left_over p (marked marks) a) (byte_of marks a))

  left_doubted : (a : ℕ) → doubted sifted_table a ≡ left_over p (marked marks) a
  left_doubted =
      same_tests (doubted sifted_table) (left_over p (marked marks)) p.atoms
      (λ a d. marked_place_after a (doubted_marked sifted_table a d))
      (λ a l. marked_place a (left_marked a l))
      (λ a low high. ap doubted_byte (byte_sifted a low high) ∙ doubted_sifted (left_over p (marked marks) a) (byte_of marks a) (left_marked a))

  sifted_lawful : lowest_unlawful marks ≡ None → lowest_unlawful sifted_table ≡ None
  sifted_lawful lawful =
      lowest_none (λ a. not (lawful_byte (byte_of sifted_table a))) (length sifted_table)
      (λ a low high.
      let within : a ≤ p.atoms = omega (arith, long) in
      not_from_true (lawful_byte (byte_of sifted_table a))
      (ap lawful_byte (byte_sifted a low within)
      ∙ lawful_sifted (left_over p (marked marks) a) (byte_of marks a)
      (not-false (lawful_byte (byte_of marks a)) (none_from_lowest (λ b. not (lawful_byte (byte_of marks b))) (length marks) lawful a low (omega arith)))))

-- THE OUTCOME

bytes_passed : (lowest : Option ℕ) → bytes_checked lowest ≡ Ok tt → lowest ≡ None
bytes_passed None h = refl
bytes_passed (Some a) h = absurd (err_not_ok h)

module _ {L : Type 0} (count : ℕ) (rung : ℕ → L) (p : Program) (marks : List ℕ) (entries : List (Option L)) (rounds : List ℕ) where
  module _ (w : Worked count rung p marks entries rounds) where
    pub sized_where : length marks ≡ p.atoms
    sized_where = length_passed p.atoms (length marks) (both_passed _ _ w.fits).0

    pub lawful_where : lowest_unlawful marks ≡ None
    lawful_where =
        let second = both_passed (length_checked p.atoms (length marks)) _ w.fits in
        let third = both_passed (length_checked p.atoms (length entries)) _ second.1 in
        bytes_passed (lowest_unlawful marks) (both_passed (length_checked p.atoms (length rounds)) _ third.1).1

  -- where atoms are left over, those are doubted and no other
  pub doubted_after : LoopedCase count rung p marks entries rounds → (a : ℕ) → doubted (outcome count rung p marks entries rounds).marks a ≡ left_over p (marked marks) a
  doubted_after c a = ap (λ s. doubted s.marks a) c.is ∙ left_doubted p marks (sized_where c.worked) a

  -- the marks stay as they are, but where atoms are left over
  kept_or_looped : ((outcome count rung p marks entries rounds).marks ≡ marks) ⊎ LoopedCase count rung p marks entries rounds
  kept_or_looped =
      ⊎_elim
      (λ c. inl (ap (λ s. s.marks) c.is))
      (⊎_elim
      (λ c. inl (ap (λ s. s.marks) c.is))
      (λ w. ⊎_elim
      (λ c. inr c)
      (⊎_elim (λ c. inl (ap (λ s. s.marks) c.is)) (λ c. inl (ap (λ s. s.marks) c.is)))
      (worked_cases count rung p marks entries rounds w)))
      (all_cases count rung p marks entries rounds)

  pub length_after : length (outcome count rung p marks entries rounds).marks ≡ length marks
  length_after =
      ⊎_elim
      (λ same. ap length same)
      (λ c. ap (λ s. length s.marks) c.is ∙ long p marks (sized_where c.worked) ∙ sym (sized_where c.worked))
      kept_or_looped

  pub marked_after : (a : ℕ) → marked (outcome count rung p marks entries rounds).marks a ≡ marked marks a
  marked_after a =
      ⊎_elim
      (λ same. ap (λ m. marked m a) same)
      (λ c. ap (λ s. marked s.marks a) c.is ∙ same_marked p marks (sized_where c.worked) a)
      kept_or_looped

  pub lawful_after : lowest_unlawful marks ≡ None → lowest_unlawful (outcome count rung p marks entries rounds).marks ≡ None
  lawful_after lawful =
      ⊎_elim
      (λ same. ap lowest_unlawful same ∙ lawful)
      (λ c. ap (λ s. lowest_unlawful s.marks) c.is ∙ sifted_lawful p marks (sized_where c.worked) lawful)
      kept_or_looped
