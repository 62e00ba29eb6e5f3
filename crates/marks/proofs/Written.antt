-- A mark table with one byte written: which atoms it marks, and that lawful bytes stay lawful; the marks after each call, and with a byte turned. Assumes nothing.
use Rattle.std.proofs.Common.{◌≡◌, ℕ, zero, suc, ◌-◌, ◌≤◌, Bool, true, false, cond, ◌&&◌, not, eqb, List, length, set, is_ok, Some, None, Ok, Option, refl, ap, ◌∙◌, ⊎_elim, arith}
use Rattle.std.proofs.lemmas.Bool.{both_ways, cases_lt, cond_both, not-false, not_from_true}
use Rattle.std.proofs.lemmas.Bool.Decides.{nat_tests}
use Rattle.std.proofs.lemmas.List.{get_or-set_other, get_or-set_same, get_or_past, length-set}
use Rattle.refusal.specs.Results.{err_not_ok, passed}
use Rattle.refusal.proofs.Checks.{atom_passed, both_passed, length_passed, ok_passed}
use Rattle.rules.specs.Program.{within}
use Rattle.rules.proofs.Tests.{lowest_none, none_from_lowest, within_from}
use Rattle.tables.specs.Entries.{with_put}
use Rattle.tables.proofs.Entries.{length-with_put}
use Rattle.marks.specs.Calls.{after_doubt, after_mark, after_unmark, bytes_checked, doubt_checked, named_checked}
use Rattle.marks.specs.Marks.{byte_of, doubted, doubted_byte, in_byte, lawful_byte, lowest_unlawful, marked, turned, with_turned}
use Rattle.marks.proofs.Bytes.{byte_past}

-- LAWFUL BYTES

module _ (marks : List ℕ) where
  pub each_lawful : lowest_unlawful marks ≡ None → (a : ℕ) → lawful_byte (byte_of marks a) ≡ true
  each_lawful none zero = refl
  each_lawful none (suc a) =
      ⊎_elim
      (λ past. ap lawful_byte (byte_past marks (suc a) past))
      (λ upto. not-false _ (none_from_lowest (λ b. not (lawful_byte (byte_of marks b))) (length marks) none (suc a) (omega arith) upto))
      (cases_lt (length marks) (suc a))

  pub lawful_from_each : ((a : ℕ) → 1 ≤ a → a ≤ length marks → lawful_byte (byte_of marks a) ≡ true) → lowest_unlawful marks ≡ None
  lawful_from_each each = lowest_none (λ b. not (lawful_byte (byte_of marks b))) (length marks) (λ a low high. not_from_true _ (each a low high))

-- ONE BYTE WRITTEN

module _ (marks : List ℕ) (a x : ℕ) where
  -- the byte x at an atom of the table, and each other byte as before
  byte_put : (b : ℕ) → byte_of (with_put marks a x) b ≡ cond (eqb b a && within (length marks) a) x (byte_of marks b)
  byte_put b = grind (arith, nat_tests, length-set marks (a - 1) x, get_or-set_same marks (a - 1) x 0, get_or-set_other marks (a - 1) (b - 1) x 0, get_or_past marks (b - 1) 0, get_or_past (set marks (a - 1) x) (b - 1) 0)

  test_put : (test : ℕ → Bool) → 1 ≤ a → a ≤ length marks → (b : ℕ) → test (byte_of (with_put marks a x) b) ≡ cond (eqb b a) (test x) (test (byte_of marks b))
  test_put test low high b =
      let inside : within (length marks) a ≡ true = within_from (length marks) a low high in
      ap test (byte_put b)
      ∙ elim (eqb b a) as (λ t. test (cond (t && within (length marks) a) x (byte_of marks b)) ≡ cond t (test x) (test (byte_of marks b))) [ true ↦ ap (λ t. test (cond t x (byte_of marks b))) inside | false ↦ refl ]

  pub marked_put : (b : ℕ) → 1 ≤ a → a ≤ length marks → marked (with_put marks a x) b ≡ cond (eqb b a) (in_byte x) (marked marks b)
  marked_put b low high = test_put in_byte low high b

  pub doubted_put : (b : ℕ) → 1 ≤ a → a ≤ length marks → doubted (with_put marks a x) b ≡ cond (eqb b a) (doubted_byte x) (doubted marks b)
  doubted_put b low high = test_put doubted_byte low high b

  pub lawful_put : lawful_byte x ≡ true → lowest_unlawful marks ≡ None → lowest_unlawful (with_put marks a x) ≡ None
  lawful_put lawful none =
      lawful_from_each (with_put marks a x)
      (λ b low high. ap lawful_byte (byte_put b) ∙ cond_both (eqb b a && within (length marks) a) x (byte_of marks b) (λ y. lawful_byte y ≡ true) (λ here. lawful) (λ apart. each_lawful marks none b))

-- CALLS THAT WRITE ONE BYTE

-- what a call does to the marks that writes the byte x at the atom a where it is accepted
pub record Writes (marks : List ℕ) (a x : ℕ) (accepted : Bool) (after : List ℕ) : Type 0 where
  pub marked_after : accepted ≡ true → (b : ℕ) → marked after b ≡ cond (eqb b a) (in_byte x) (marked marks b)
  pub doubted_after : accepted ≡ true → (b : ℕ) → doubted after b ≡ cond (eqb b a) (doubted_byte x) (doubted marks b)
  pub as_before : accepted ≡ false → after ≡ marks
  pub lawful_after : lowest_unlawful marks ≡ None → lowest_unlawful after ≡ None
  pub length_after : length after ≡ length marks

module _ (marks : List ℕ) (a x : ℕ) (lawful : lawful_byte x ≡ true) where
  writes : (accepted : Bool) → (accepted ≡ true → (1 ≤ a) × (a ≤ length marks)) → Writes marks a x accepted (cond accepted (with_put marks a x) marks)
  writes true there = record {
    marked_after = λ ok b. marked_put marks a x b (there refl).0 (there refl).1;
    doubted_after = λ ok b. doubted_put marks a x b (there refl).0 (there refl).1;
    as_before = λ refused. absurd (both_ways true refused refl);
    lawful_after = lawful_put marks a x lawful;
    length_after = length-with_put marks a x;
  }
  writes false there = record {
    marked_after = λ ok. absurd (both_ways false refl ok);
    doubted_after = λ ok. absurd (both_ways false refl ok);
    as_before = λ refused. refl;
    lawful_after = λ none. none;
    length_after = refl;
  }

pub bytes_passed : {u : Unit {0}} (lowest : Option ℕ) → bytes_checked lowest ≡ Ok u → lowest ≡ None
bytes_passed None h = refl
bytes_passed (Some b) h = absurd (err_not_ok h)

module _ (n : ℕ) (marks : List ℕ) (a : ℕ) where
  pub named_within : named_checked n marks a ≡ Ok tt → (1 ≤ a) × (a ≤ length marks) × (length marks ≡ n) × (lowest_unlawful marks ≡ None)
  named_within h =
      let both = both_passed _ _ h in
      let fits = both_passed _ _ both.0 in
      let named = atom_passed n a both.1 in
      let long = length_passed n (length marks) fits.0 in
      (named.0, omega arith, long, bytes_passed (lowest_unlawful marks) fits.1)

  pub doubt_within : doubt_checked n marks a ≡ Ok tt → (named_checked n marks a ≡ Ok tt) × (marked marks a ≡ true)
  doubt_within h = let both = both_passed _ _ h in (both.0, (passed (marked marks a) err_not_ok both.1).0)

  there_where : named_checked n marks a ≡ Ok tt → (1 ≤ a) × (a ≤ length marks)
  there_where h = let named = named_within h in (named.0, named.1)

  -- a call that asks for no more than marks that fit and an atom
  pub named_writes : (x : ℕ) → lawful_byte x ≡ true → Writes marks a x (is_ok (named_checked n marks a)) (cond (is_ok (named_checked n marks a)) (with_put marks a x) marks)
  named_writes x lawful = writes marks a x lawful (is_ok (named_checked n marks a)) (λ ok. there_where (ok_passed _ ok))

  pub mark_writes : Writes marks a 1 (is_ok (named_checked n marks a)) (after_mark n marks a)
  mark_writes = named_writes 1 refl

  pub unmark_writes : Writes marks a 0 (is_ok (named_checked n marks a)) (after_unmark n marks a)
  unmark_writes = named_writes 0 refl

  pub doubt_writes : Writes marks a 2 (is_ok (doubt_checked n marks a)) (after_doubt n marks a)
  doubt_writes = writes marks a 2 refl (is_ok (doubt_checked n marks a)) (λ ok. there_where (doubt_within (ok_passed _ ok)).0)

-- A TURNED BYTE

in_turned : (byte : ℕ) → in_byte (turned byte) ≡ not (in_byte byte)
in_turned byte = elim (in_byte byte) as (λ t. in_byte (cond t 0 1) ≡ not t) [ true ↦ refl | false ↦ refl ]

lawful_turned_byte : (byte : ℕ) → lawful_byte (turned byte) ≡ true
lawful_turned_byte byte = elim (in_byte byte) as (λ t. lawful_byte (cond t 0 1) ≡ true) [ true ↦ refl | false ↦ refl ]

module _ (marks : List ℕ) (a : ℕ) where
  pub marked_turned : (b : ℕ) → 1 ≤ a → a ≤ length marks → marked (with_turned marks a) b ≡ cond (eqb b a) (not (marked marks a)) (marked marks b)
  marked_turned b low high = marked_put marks a (turned (byte_of marks a)) b low high ∙ ap (λ t. cond (eqb b a) t (marked marks b)) (in_turned (byte_of marks a))

  pub lawful_turned : lowest_unlawful marks ≡ None → lowest_unlawful (with_turned marks a) ≡ None
  lawful_turned = lawful_put marks a (turned (byte_of marks a)) (lawful_turned_byte (byte_of marks a))

module _ (n : ℕ) (marks : List ℕ) (a : ℕ) where
  pub turn_writes : Writes marks a (turned (byte_of marks a)) (is_ok (named_checked n marks a)) (cond (is_ok (named_checked n marks a)) (with_turned marks a) marks)
  turn_writes = named_writes n marks a (turned (byte_of marks a)) (lawful_turned_byte (byte_of marks a))
