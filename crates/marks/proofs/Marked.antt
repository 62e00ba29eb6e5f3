-- A marked atom lies in the table, and a doubted atom is marked. Assumes nothing.
use Rattle.std.proofs.Common.{◌≡◌, ℕ, zero, suc, ◌≤◌, true, eqb, List, length, sym, refl, ap, ◌∙◌, ⊎_elim, arith}
use Rattle.std.proofs.lemmas.Bool.{both_ways, cases_lt, or_right}
use Rattle.marks.specs.Marks.{byte_of, doubted, doubted_byte, in_byte, marked}
use Rattle.marks.proofs.Bytes.{byte_past}

unmarked_byte : (marks : List ℕ) (a : ℕ) → byte_of marks a ≡ 0 → marked marks a ≡ true → ⊥
unmarked_byte marks a e h = both_ways (in_byte 0) refl (sym (ap in_byte e) ∙ h)

pub marked_above : (marks : List ℕ) (a : ℕ) → marked marks a ≡ true → 1 ≤ a
marked_above marks zero h = absurd (unmarked_byte marks 0 refl h)
marked_above marks (suc a) h = omega arith

pub marked_upto : (marks : List ℕ) (a : ℕ) → marked marks a ≡ true → a ≤ length marks
marked_upto marks a h = ⊎_elim (λ past. absurd (unmarked_byte marks a (byte_past marks a past) h)) (λ l. l) (cases_lt (length marks) a)

pub doubted_marked : (marks : List ℕ) (a : ℕ) → doubted marks a ≡ true → marked marks a ≡ true
doubted_marked marks a h = or_right (eqb (byte_of marks a) 1) (doubted_byte (byte_of marks a)) h
