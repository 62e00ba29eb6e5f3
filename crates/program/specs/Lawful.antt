-- Proofs: what is read is lawful. Assumes nothing.
use Rattle.std.specs.Prelude.{◌≡◌, ℕ, zero, suc, ◌+◌, ◌≤◌, List, length, drop, Ok, Err, Result, ◌≢◌, nat_le, refl}
use Rattle.std.proofs.Common.{sym, ap, subst, ◌∙◌, arith}
use Rattle.std.proofs.lemmas.Bool.{leb-true}
use Rattle.std.specs.List.{AllByRecursion}
use Rattle.refusal.specs.declared.Refusal.{Refusal}
use Rattle.refusal.specs.Results.{err_not_ok, passed}
use Rattle.rules.specs.Program.{Rule, Program, LawfulRule, Lawful}
use Rattle.program.specs.Reading.{file_head, rules_from, with_atoms, by_head, program_in, read_or_empty}
use Rattle.program.specs.Turns.{turn_of, none_left, one_more}
use Rattle.program.specs.Here.{rule_here, rule_lawful}
use Rattle.program.specs.Head.{head_here}
use Rattle.program.specs.declared.reader.FileHead.{FileHead}

-- each rule that is read is lawful, and they are no more than there is room for
abbrev pub Sound : ℕ → ℕ → List Rule → Type 0
Sound n room rules = AllByRecursion (LawfulRule n) rules × (length rules ≤ room)

no_room : (less : ℕ) → zero ≢ suc less
no_room less e = omega arith

pub rules_lawful : (room n stated count : ℕ) (rest : List ℕ) (place : ℕ) (rules : List Rule) → rules_from room n stated count rest place ≡ Ok rules → Sound n room rules
rules_lawful zero n stated count rest place rules h =
    elim (turn_of n stated count rest place rules zero h) [
      | none_left none is was ↦ subst (Sound n zero) (sym none) (tt, omega arith)
      | one_more less size k others room_is is fine was same ↦ absurd (no_room less room_is)
    ]
rules_lawful (suc room) n stated count rest place rules h =
    elim (turn_of n stated count rest place rules (suc room) h) [
      | none_left none is was ↦ subst (Sound n (suc room)) (sym none) (tt, omega arith)
      | one_more less size k others room_is is fine was same ↦
          let less_is : less ≡ room = omega arith in
          let later = rules_lawful room n stated (count + 1) (drop (4 + size) rest) (place + (4 + size)) others (subst (λ m. rules_from m n stated (count + 1) (drop (4 + size) rest) (place + (4 + size)) ≡ Ok others) less_is was) in
          subst (Sound n (suc room)) (sym same) ((rule_lawful rest size k (rule_here rest place size k is) n fine, later.0), omega (arith, later.1))
    ]

-- the head and the rules that a program was read from
pub record Parts (bytes : List ℕ) (p : Program) : Type 0 where
  pub head : FileHead
  pub small : length bytes ≤ 65000
  pub head_read : file_head bytes ≡ Ok head
  pub rules_read : rules_from 8000 head.atoms head.rules 0 (drop 8 bytes) 8 ≡ Ok p.rules
  pub same_atoms : head.atoms ≡ p.atoms

module _ (bytes : List ℕ) (p : Program) (small : length bytes ≤ 65000) where
  by_rules : (h : FileHead) → file_head bytes ≡ Ok h → (x : Result (List Rule) Refusal) → rules_from 8000 h.atoms h.rules 0 (drop 8 bytes) 8 ≡ x → with_atoms h.atoms x ≡ Ok p → Parts bytes p
  by_rules h head_is (Err e) is got = absurd (err_not_ok got)
  by_rules h head_is (Ok rs) is got =
      let same : record { atoms = h.atoms; rules = rs } ≡ p = cc in
      record { head = h; small = small; head_read = head_is; rules_read = is ∙ ap (λ (q : Program). Ok q.rules) same; same_atoms = ap (λ (q : Program). q.atoms) same }

  by_file_head : (x : Result FileHead Refusal) → file_head bytes ≡ x → by_head bytes x ≡ Ok p → Parts bytes p
  by_file_head (Err e) is got = absurd (err_not_ok got)
  by_file_head (Ok h) is got = by_rules h is (rules_from 8000 h.atoms h.rules 0 (drop 8 bytes) 8) refl got

pub parts_of : (bytes : List ℕ) (p : Program) → program_in bytes ≡ Ok p → Parts bytes p
parts_of bytes p h =
    let got = passed (nat_le (length bytes) 65000) err_not_ok h in
    by_file_head bytes p (leb-true (length bytes) 65000 got.0) (file_head bytes) refl got.1

-- the rules of a program that was read
pub parts_sound : (bytes : List ℕ) (p : Program) → Parts bytes p → Sound p.atoms 8000 p.rules
parts_sound bytes p parts =
    subst (λ n. Sound n 8000 p.rules) parts.same_atoms (rules_lawful 8000 parts.head.atoms parts.head.rules 0 (drop 8 bytes) 8 p.rules parts.rules_read)

pub program_lawful : (bytes : List ℕ) (p : Program) → Parts bytes p → Lawful p
program_lawful bytes p parts =
    let rules = parts_sound bytes p parts in
    record {
      atoms_bound = omega (arith, (head_here bytes parts.head parts.head_read).few_atoms, parts.same_atoms);
      rules_bound = omega (arith, rules.1);
      each_lawful = rules.0;
    }

-- the program that is read, or the empty one, is lawful
pub read_lawful : (bytes : List ℕ) (r : Result Program Refusal) → program_in bytes ≡ r → Lawful (read_or_empty r)
read_lawful bytes (Err e) is = record { atoms_bound = omega arith; rules_bound = omega arith; each_lawful = tt }
read_lawful bytes (Ok p) is = program_lawful bytes p (parts_of bytes p is)
