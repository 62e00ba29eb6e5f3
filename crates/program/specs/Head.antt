-- Proofs: what is known of a head that was read. Assumes nothing.
use Rattle.std.specs.Prelude.{◌≡◌, ℕ, ◌≤◌, ◌&&◌, List, Some, None, Ok, Option, ◌==◌, nat_le, refl}
use Rattle.std.proofs.Common.{ap, subst, ◌∙◌}
use Rattle.std.proofs.lemmas.Bool.{leb-true, eqb-true, and_parts}
use Rattle.records.specs.Words.{header_of, word_at}
use Rattle.refusal.specs.Results.{err_not_ok, passed}
use Rattle.records.specs.declared.Header.{Header}
use Rattle.program.specs.Reading.{by_numbers, by_head_header, file_head}
use Rattle.program.specs.declared.reader.FileHead.{FileHead}

-- a head record with these numbers stands at the front
pub record HeadHere (bytes : List ℕ) (h : FileHead) : Type 0 where
  pub header : header_of bytes ≡ Some (record { length = 4; kind = 1 })
  pub atoms_word : word_at bytes 4 ≡ Some h.atoms
  pub rules_word : word_at bytes 6 ≡ Some h.rules
  pub few_atoms : h.atoms ≤ 4096
  pub few_rules : h.rules ≤ 8000

module _ (bytes : List ℕ) (h : FileHead) where
  by_numbers_here : header_of bytes ≡ Some (record { length = 4; kind = 1 }) → (a b : Option ℕ) → word_at bytes 4 ≡ a → word_at bytes 6 ≡ b → by_numbers a b ≡ Ok h → HeadHere bytes h
  by_numbers_here header None b first second is = absurd (err_not_ok is)
  by_numbers_here header (Some n) None first second is = absurd (err_not_ok is)
  by_numbers_here header (Some n) (Some k) first second is =
      let both = passed (nat_le n 4096 && nat_le k 8000) err_not_ok is in
      let bounds = and_parts (nat_le n 4096) (nat_le k 8000) both.0 in
      let same : record { atoms = n; rules = k } ≡ h = cc in
      subst (HeadHere bytes) same (record {
        header = header;
        atoms_word = first;
        rules_word = second;
        few_atoms = leb-true n 4096 bounds.0;
        few_rules = leb-true k 8000 bounds.1;
      })

  by_header_here : (o : Option Header) → header_of bytes ≡ o → by_head_header bytes o ≡ Ok h → HeadHere bytes h
  by_header_here None was is = absurd (err_not_ok is)
  by_header_here (Some x) was is =
      let kind = passed (x.kind == 1) err_not_ok is in
      let size = passed (x.length == 4) err_not_ok kind.1 in
      let header : header_of bytes ≡ Some (record { length = 4; kind = 1 }) =
      was ∙ ap (λ n. Some (record { length = n; kind = x.kind })) (eqb-true x.length 4 size.0) ∙ ap (λ n. Some (record { length = 4; kind = n })) (eqb-true x.kind 1 kind.0) in
      by_numbers_here header (word_at bytes 4) (word_at bytes 6) refl refl size.1

  pub head_here : file_head bytes ≡ Ok h → HeadHere bytes h
  head_here is = by_header_here (header_of bytes) refl is
