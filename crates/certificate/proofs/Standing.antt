-- When a record stands here, and when an atom passes, both ways round. Assumes nothing.
use Rattle.std.proofs.Common.{◌≡◌, ℕ, ◌+◌, ◌≤◌, Bool, true, false, cond, eqb, ltb, leb, List, length, Some, None, Ok, Option, sym, refl, ap, ◌∙◌, arith}
use Rattle.std.proofs.lemmas.Bool.{leb-true, eqb-true, le-leb, eq-eqb, cond-true}
use Rattle.refusal.specs.Results.{err_not_ok, some_not_none, passed}
use Rattle.refusal.specs.declared.Reason.TheVariants.{Cut, Kind, Length, Atom, Order, Trailing}
use Rattle.records.specs.Words.{header_of}
use Rattle.records.specs.declared.Header.{Header}
use Rattle.rules.specs.Program.{within}
use Rattle.certificate.specs.Reading.{refuse, claim_length, opened_claim, by_header, opened, atom_fault, ended}

-- A CLAIM'S RECORD

-- a whole record of a claim stands here, with `size` bytes of contents
pub record ClaimHere (width : ℕ) (rest : List ℕ) (size : ℕ) : Type 0 where
  pub header : header_of rest ≡ Some (record { length = size; kind = 18 })
  pub long : claim_length width size ≡ true
  pub whole : 4 + size ≤ length rest

module _ (width : ℕ) (rest : List ℕ) (place size : ℕ) where
  pub opened_from_claim : ClaimHere width rest size → opened width rest place ≡ Ok (Some size)
  opened_from_claim here =
      ap (by_header width rest place) here.header
      ∙ cond-true (claim_length width size) (cond (leb (4 + size) (length rest)) (Ok (Some size)) (refuse Cut place)) (refuse Length place) here.long
      ∙ cond-true (leb (4 + size) (length rest)) (Ok (Some size)) (refuse Cut place) (le-leb (4 + size) (length rest) here.whole)

  claim_opened : (s : ℕ) → header_of rest ≡ Some (record { length = s; kind = 18 }) → opened_claim width rest place s ≡ Ok (Some size) → ClaimHere width rest size
  claim_opened s header is =
      let long = passed (claim_length width s) err_not_ok is in
      let whole = passed (leb (4 + s) (length rest)) err_not_ok long.1 in
      let same : s ≡ size = let found = whole.1 in cc in
      record {
        header = header ∙ ap (λ n. Some (record { length = n; kind = 18 })) same;
        long = ap (claim_length width) (sym same) ∙ long.0;
        whole = omega (arith, leb-true (4 + s) (length rest) whole.0);
      }

  claim_by_header : (o : Option Header) → header_of rest ≡ o → by_header width rest place o ≡ Ok (Some size) → ClaimHere width rest size
  claim_by_header None header is = absurd (err_not_ok is)
  claim_by_header (Some h) header is = by_kind (eqb h.kind 18) refl is
    where
      by_kind : (b : Bool) → eqb h.kind 18 ≡ b → cond b (opened_claim width rest place h.length) (cond (eqb h.kind 3) (cond (eqb h.length 0) (Ok None) (refuse Length place)) (refuse Kind place)) ≡ Ok (Some size) → ClaimHere width rest size
      by_kind true kind is = claim_opened h.length (header ∙ ap (λ n. Some (record { length = h.length; kind = n })) (eqb-true h.kind 18 kind)) is
      by_kind false kind is =
          let third = passed (eqb h.kind 3) err_not_ok is in
          let last = (passed (eqb h.length 0) err_not_ok third.1).1 in
          absurd (let z : ◌≡◌ {A = ℕ} 0 1 = cc in omega arith)

  pub claim_here : opened width rest place ≡ Ok (Some size) → ClaimHere width rest size
  claim_here = claim_by_header (header_of rest) refl

-- THE END'S RECORD

module _ (width : ℕ) (rest : List ℕ) (place : ℕ) where
  pub opened_from_end : header_of rest ≡ Some (record { length = 0; kind = 3 }) → opened width rest place ≡ Ok None
  opened_from_end is = ap (by_header width rest place) is

  claim_not_end : (s : ℕ) → opened_claim width rest place s ≡ Ok None → ⊥
  claim_not_end s is =
      let long = passed (claim_length width s) err_not_ok is in
      let whole = (passed (leb (4 + s) (length rest)) err_not_ok long.1).1 in
      let z : ◌≡◌ {A = ℕ} 0 1 = cc in omega arith

  end_by_header : (o : Option Header) → by_header width rest place o ≡ Ok None → o ≡ Some (record { length = 0; kind = 3 })
  end_by_header None is = absurd (err_not_ok is)
  end_by_header (Some h) is = by_kind (eqb h.kind 18) is
    where
      by_kind : (b : Bool) → cond b (opened_claim width rest place h.length) (cond (eqb h.kind 3) (cond (eqb h.length 0) (Ok None) (refuse Length place)) (refuse Kind place)) ≡ Ok None → Some h ≡ Some (record { length = 0; kind = 3 })
      by_kind true is = absurd (claim_not_end h.length is)
      by_kind false is =
          let third = passed (eqb h.kind 3) err_not_ok is in
          let last = passed (eqb h.length 0) err_not_ok third.1 in
          ap (λ n. Some (record { length = n; kind = h.kind })) (eqb-true h.length 0 last.0) ∙ ap (λ n. Some (record { length = 0; kind = n })) (eqb-true h.kind 3 third.0)

  pub end_here : opened width rest place ≡ Ok None → header_of rest ≡ Some (record { length = 0; kind = 3 })
  end_here = end_by_header (header_of rest)

module _ (rest : List ℕ) (place : ℕ) where
  pub ended_from : length rest ≡ 4 → ended rest place ≡ Ok tt
  ended_from last = cond-true (eqb (length rest) 4) (Ok tt) (refuse Trailing (place + 4)) (eq-eqb (length rest) 4 last)

  pub ended_so : (u : Unit {0}) → ended rest place ≡ Ok u → length rest ≡ 4
  ended_so u is = eqb-true (length rest) 4 (passed (eqb (length rest) 4) err_not_ok is).0

-- THE ATOM OF A CLAIM

module _ (n last atom : ℕ) where
  pub no_fault : within n atom ≡ true → ltb last atom ≡ true → atom_fault n last atom ≡ None
  no_fault known above =
      cond-true (within n atom) (cond (ltb last atom) None (Some Order)) (Some Atom) known
      ∙ cond-true (ltb last atom) None (Some Order) above

  pub sound_so : atom_fault n last atom ≡ None → (within n atom ≡ true) × (ltb last atom ≡ true)
  sound_so is =
      let first = passed (within n atom) some_not_none is in
      (first.0, (passed (ltb last atom) some_not_none first.1).0)
