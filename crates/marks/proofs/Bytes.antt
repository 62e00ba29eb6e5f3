-- Lemmas: what is asked of the atoms in turn, as it is asked of the list of their bytes.
use Rattle.std.proofs.Common.{◌≡◌, ℕ, suc, ◌+◌, ◌-◌, ◌<◌, true, false, not, eqb, Bool, List, [], ◌∷◌, length, get_or, cond, Some, option_map, sym, refl, ap, ◌∙◌, arith}
use Rattle.std.specs.List.{count_by, position, position_from}
use Rattle.std.proofs.lemmas.Bool.{ne_eqb}
use Rattle.std.proofs.lemmas.Bool.Decides.{nat_tests}
use Rattle.std.proofs.lemmas.List.{get_or_past}
use Rattle.std.proofs.lemmas.List.Sums.{sum_by-cons}
use Rattle.std.proofs.lemmas.Iterator.Adapters.{position_from-zero}
use Rattle.rules.specs.Tests.{first_from, tally, tally_from}
use Rattle.marks.specs.Marks.{byte_of, lawful_byte, lowest_unlawful}

pub byte_at : (marks : List ℕ) (i : ℕ) → byte_of marks (i + 1) ≡ get_or marks i 0
byte_at marks i =
    let some : eqb (i + 1) 0 ≡ false = ne_eqb (i + 1) 0 (λ e. omega arith) in
    let place : i + 1 - 1 ≡ i = omega arith in
    rw (some, place)

pub byte_past : (marks : List ℕ) (a : ℕ) → length marks < a → byte_of marks a ≡ 0
byte_past marks a past = grind (arith, nat_tests, get_or_past marks (a - 1) 0 (omega arith))

-- the test of each number after i is that of the byte at its place
module _ (test : ℕ → Bool) (p : ℕ → Bool) where
  tally_by : (bytes : List ℕ) (i : ℕ) → ((a k : ℕ) → a ≡ i + 1 + k → test a ≡ p (get_or bytes k 0)) → tally_from test (i + 1) (length bytes) ≡ count_by p bytes
  tally_by [] i same = refl
  tally_by (b ∷ bytes) i same =
      let here : test (i + 1) ≡ p b = same (i + 1) 0 (omega arith) in
      let later = tally_by bytes (i + 1) (λ a k e. same a (suc k) (omega arith)) in
      rw (here, later) (sym (sum_by-cons (λ x. cond (p x) 1 0) b bytes))

  first_by : (bytes : List ℕ) (i : ℕ) → ((a k : ℕ) → a ≡ i + 1 + k → test a ≡ p (get_or bytes k 0)) → first_from test (i + 1) (length bytes) ≡ option_map (λ k. k + 1) (position_from p i bytes)
  first_by [] i same = refl
  first_by (b ∷ bytes) i same =
      let here : test (i + 1) ≡ p b = same (i + 1) 0 (omega arith) in
      let later = first_by bytes (i + 1) (λ a k e. same a (suc k) (omega arith)) in
      rw (here, later) (elim (p b) as (λ t. cond t (Some (i + 1)) (option_map (λ k. k + 1) (position_from p (i + 1) bytes)) ≡ option_map (λ k. k + 1) (cond t (Some i) (position_from p (i + 1) bytes))) [ true ↦ refl | false ↦ refl ])

module _ (marks : List ℕ) where
  -- the byte of the atom after place k
  byte_after : (a k : ℕ) → a ≡ 0 + 1 + k → byte_of marks a ≡ get_or marks k 0
  byte_after a k e =
      let next : a ≡ k + 1 = omega arith in
      rw next (byte_at marks k)

  -- as many bytes pass as there are atoms whose byte does
  pub counted : (p : ℕ → Bool) → count_by p marks ≡ tally (λ a. p (byte_of marks a)) (length marks)
  counted p = sym (tally_by _ p marks 0 (λ a k e. ap p (byte_after a k e)))

  pub found : option_map (λ k. k + 1) (position (λ b. not (lawful_byte b)) marks) ≡ lowest_unlawful marks
  found =
      ap (option_map (λ k. k + 1)) (position_from-zero (λ b. not (lawful_byte b)) marks)
      ∙ sym (first_by _ (λ b. not (lawful_byte b)) marks 0 (λ a k e. ap (λ b. not (lawful_byte b)) (byte_after a k e)))
