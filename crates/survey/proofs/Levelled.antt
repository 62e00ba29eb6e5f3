-- The levels of the atoms, with claims put in. Assumes nothing.
use Rattle.std.proofs.Common.{◌≡◌, ℕ, zero, suc, ◌-◌, ◌≤◌, true, false, cond, eqb, ltb, leb, List, [], ◌∷◌, length, replicate, Some, None, Option, sym, refl, ap, ◌∙◌, ⊎_elim, arith}
use Rattle.std.specs.List.{slice_get}
use Rattle.std.proofs.lemmas.Bool.{leb-true, ltb-true, eqb-true, eqb-false, ne_eqb, cond-true, cond-false, and_parts, cases_Bool}
use Rattle.rules.specs.Program.{within, ascends_above, ascending}
use Rattle.rules.specs.Tests.{all}
use Rattle.tables.proofs.Entries.{length-with_put, nth_set_other, nth_set_same}
use Rattle.levels.specs.Table.{held, level_of}
use Rattle.certificate.specs.Claims.{atoms_of}
use Rattle.certificate.specs.declared.Claim.{Claim}
use Rattle.survey.specs.Made.{claimed_level}
use Rattle.survey.specs.Making.{with_entry, with_levels}
use Rattle.survey.proofs.Lawful.{ascending_from_above}

-- ONE ATOM

module _ {L : Type 0} (entries : List (Option L)) (b : ℕ) where
  pub length-with_entry : (entry : Option L) → length (with_entry entries b entry) ≡ length entries
  length-with_entry None = refl
  length-with_entry (Some x) = length-with_put entries b (Some x)

  level_here : (entry : Option L) → within (length entries) b ≡ true → level_of entries b ≡ None → level_of (with_entry entries b entry) b ≡ held (Some entry)
  level_here None known none = none
  level_here (Some x) known none =
      let ends = and_parts (leb 1 b) (leb b (length entries)) known in
      let some = leb-true 1 b ends.0 in
      let there = leb-true b (length entries) ends.1 in
      let positive : eqb b 0 ≡ false = ne_eqb b 0 (λ e. omega arith) in
      rw positive (ap held (nth_set_same (Some x) entries (b - 1) (omega arith)))

  level_apart : (entry : Option L) (a : ℕ) → (a ≡ b → ⊥) → 1 ≤ b → level_of (with_entry entries b entry) a ≡ level_of entries a
  level_apart None a apart some = refl
  level_apart (Some x) zero apart some = refl
  level_apart (Some x) (suc a) apart some =
      let positive : eqb b 0 ≡ false = ne_eqb b 0 (λ e. omega arith) in
      rw positive (ap (λ o. cond (eqb (suc a) 0) None (held o)) (nth_set_other (Some x) entries (b - 1) (suc a - 1) (λ e. apart (omega arith))))

-- ALL ATOMS

module _ {L : Type 0} where
  pub length-with_levels : (claims : List (Claim L)) (entries : List (Option L)) → length (with_levels entries claims) ≡ length entries
  length-with_levels [] entries = refl
  length-with_levels (c ∷ claims) entries = length-with_levels claims (with_entry entries c.atom c.level) ∙ length-with_entry entries c.atom c.level

  -- claims above an atom leave its level as it is
  level_kept : (claims : List (Claim L)) (entries : List (Option L)) (low a : ℕ) → ascends_above low (atoms_of claims) ≡ true → a ≤ low → level_of (with_levels entries claims) a ≡ level_of entries a
  level_kept [] entries low a ascends lower = refl
  level_kept (c ∷ claims) entries low a ascends lower =
      let parts = and_parts (ltb low c.atom) (ascends_above c.atom (atoms_of claims)) ascends in
      let above = ltb-true low c.atom parts.0 in
      level_kept claims (with_entry entries c.atom c.level) c.atom a parts.1 (omega arith)
      ∙ level_apart entries c.atom c.level a (λ e. omega arith) (omega arith)

  pub level_with_levels : (claims : List (Claim L)) (entries : List (Option L)) → all (within (length entries)) (atoms_of claims) ≡ true → ascending (atoms_of claims) ≡ true
      → (a : ℕ) → level_of entries a ≡ None → level_of (with_levels entries claims) a ≡ claimed_level claims a
  level_with_levels [] entries known ascends a none = none
  level_with_levels (c ∷ claims) entries known ascends a none =
      let parts = and_parts (within (length entries) c.atom) (all (within (length entries)) (atoms_of claims)) known in
      let after = with_entry entries c.atom c.level in
      let some = leb-true 1 c.atom (and_parts (leb 1 c.atom) (leb c.atom (length entries)) parts.0).0 in
      ⊎_elim
      (λ here.
      let same : a ≡ c.atom = eqb-true a c.atom here in
      level_kept claims after c.atom a ascends (omega arith)
      ∙ ap (level_of after) same
      ∙ level_here entries c.atom c.level parts.0 (ap (level_of entries) (sym same) ∙ none)
      ∙ sym (cond-true (eqb a c.atom) (held (Some c.level)) (claimed_level claims a) here))
      (λ apart.
      level_with_levels claims after (ap (λ n. all (within n) (atoms_of claims)) (length-with_entry entries c.atom c.level) ∙ parts.1) (ascending_from_above c.atom (atoms_of claims) ascends) a
      (level_apart entries c.atom c.level a (eqb-false a c.atom apart) some ∙ none)
      ∙ sym (cond-false (eqb a c.atom) (held (Some c.level)) (claimed_level claims a) apart))
      (cases_Bool (eqb a c.atom))

  none_held : (many i : ℕ) → held {L = L} (slice_get (replicate many None) i) ≡ None
  none_held zero i = refl
  none_held (suc many) zero = refl
  none_held (suc many) (suc i) = none_held many i

  pub none_levelled : (many a : ℕ) → level_of {L = L} (replicate many None) a ≡ None
  none_levelled many a = elim (eqb a 0) as (λ t. cond {A = Option L} t None (held (slice_get (replicate many None) (a - 1))) ≡ None) [ true ↦ refl | false ↦ none_held many (a - 1) ]
