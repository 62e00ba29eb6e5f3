-- The refusal for too many records never comes. Assumes nothing.
use Rattle.std.proofs.Common.{◌≡◌, ℕ, zero, suc, ◌+◌, ◌<◌, ◌≤◌, cond, eqb, ltb, leb, List, length, drop, Some, None, Ok, Err, Option, Result, sym, refl, ap, subst, arith}
use Rattle.std.proofs.lemmas.Bool.{leb-true, ltb-true, and_parts, cond_both}
use Rattle.refusal.specs.Numbers.{number_of}
use Rattle.refusal.specs.declared.Reason.{Reason}
use Rattle.refusal.specs.declared.Reason.TheVariants.{Cut, Kind, Length, Limit, Atom, Order, Trailing, LevelKind, AtomCount, RecordCount}
use Rattle.refusal.specs.declared.Refusal.{Refusal}
use Rattle.records.specs.Words.{header_of, word_at}
use Rattle.records.specs.declared.Header.{Header}
use Rattle.rules.specs.Program.{within}
use Rattle.certificate.specs.Reading.{refuse, by_numbers, by_head_header, stated_kind, claim_length, opened_claim, by_header, opened, claim_of, after_end, after_claim, by_fault, next_record, claims_from, by_kind, claims_in}
use Rattle.certificate.specs.Relation.{NeverTooMany}
use Rattle.certificate.specs.declared.Claim.{Claim}
use Rattle.certificate.proofs.Claims.{more, claims_by}

-- a refusal, if any, is for another reason
abbrev Other : {X : Type 0} → Result X Refusal → Type 0
Other (Ok x) = Unit {0}
Other (Err e) = e.reason ≡ RecordCount → ⊥

-- reasons with a smaller number are other ones
unlike : (why : Reason) → number_of why < 17 → why ≡ RecordCount → ⊥
unlike why small same = omega (arith, ap number_of same)

other_of : {X : Type 0} (r : Result X Refusal) (e : Refusal) → Other r → r ≡ Err e → e.reason ≡ RecordCount → ⊥
other_of r e other is = subst Other is other

-- THE HEAD

other_numbers : (n : ℕ) (a b : Option ℕ) → Other (by_numbers n a b)
other_numbers n None b = unlike Cut (omega arith)
other_numbers n (Some m) None = unlike Cut (omega arith)
other_numbers n (Some m) (Some k) = cond_both (eqb m n) (Ok k) (refuse AtomCount 0) Other (λ _. tt) (λ _. unlike AtomCount (omega arith))

other_head : (n : ℕ) (bytes : List ℕ) (o : Option Header) → Other (by_head_header n bytes o)
other_head n bytes None = unlike Cut (omega arith)
other_head n bytes (Some h) =
    let numbers = by_numbers n (word_at bytes 4) (word_at bytes 6) in
    cond_both (eqb h.kind 17) (cond (eqb h.length 4) numbers (refuse Length 0)) (refuse Kind 0) Other
    (λ _. cond_both (eqb h.length 4) numbers (refuse Length 0) Other (λ _. other_numbers n (word_at bytes 4) (word_at bytes 6)) (λ _. unlike Length (omega arith)))
    (λ _. unlike Kind (omega arith))

other_kind : (n : ℕ) (bytes : List ℕ) → Other (stated_kind n bytes)
other_kind n bytes = cond_both (leb (length bytes) 65000) (by_head_header n bytes (header_of bytes)) (refuse Limit 0) Other (λ _. other_head n bytes (header_of bytes)) (λ _. unlike Limit (omega arith))

-- A RECORD

module _ (width : ℕ) (rest : List ℕ) (place : ℕ) where
  other_claim : (s : ℕ) → Other (opened_claim width rest place s)
  other_claim s =
      let fits = cond (leb (4 + s) (length rest)) (Ok (Some s)) (refuse Cut place) in
      cond_both (claim_length width s) fits (refuse Length place) Other
      (λ _. cond_both (leb (4 + s) (length rest)) (Ok (Some s)) (refuse Cut place) Other (λ _. tt) (λ _. unlike Cut (omega arith)))
      (λ _. unlike Length (omega arith))

  other_header : (o : Option Header) → Other (by_header width rest place o)
  other_header None = unlike Cut (omega arith)
  other_header (Some h) =
      let last = cond (eqb h.length 0) (Ok None) (refuse Length place) in
      cond_both (eqb h.kind 18) (opened_claim width rest place h.length) (cond (eqb h.kind 3) last (refuse Kind place)) Other
      (λ _. other_claim h.length)
      (λ _. cond_both (eqb h.kind 3) last (refuse Kind place) Other
      (λ _. cond_both (eqb h.length 0) (Ok None) (refuse Length place) Other (λ _. tt) (λ _. unlike Length (omega arith)))
      (λ _. unlike Kind (omega arith)))

-- THE RECORDS

module _ {L : Type 0} (width : ℕ) (decode : List ℕ → L) where
  other_after : (c : Claim L) (r : Result (List (Claim L)) Refusal) → Other r → Other (after_claim width decode c r)
  other_after c (Ok cs) other = tt
  other_after c (Err e) other = other

  -- `beyond` is of a claim whose atom passes
  other_next : (n last : ℕ) (rest : List ℕ) (place : ℕ) (after : ℕ → Result (List (Claim L)) Refusal)
      → ((size : ℕ) → last < (claim_of width decode rest size).atom → (claim_of width decode rest size).atom ≤ n → Other (after size))
      → (o : Result (Option ℕ) Refusal) → opened width rest place ≡ o → Other (next_record width decode n last rest place after o)
  other_next n last rest place after beyond (Err e) is = subst Other is (other_header width rest place (header_of rest))
  other_next n last rest place after beyond (Ok None) is =
      cond_both (eqb (length rest) 4) (Ok tt) (refuse Trailing (place + 4)) (λ r. Other (after_end width decode r)) (λ _. tt) (λ _. unlike Trailing (omega arith))
  other_next n last rest place after beyond (Ok (Some size)) is =
      let atom = (claim_of width decode rest size).atom in
      cond_both (within n atom) (cond (ltb last atom) None (Some Order)) (Some Atom) (λ f. Other (by_fault width decode place (after size) f))
      (λ known. cond_both (ltb last atom) None (Some Order) (λ f. Other (by_fault width decode place (after size) f))
      (λ above. beyond size (ltb-true last atom above) (leb-true atom n (and_parts (leb 1 atom) (leb atom n) known).1))
      (λ _. unlike Order (omega arith)))
      (λ _. unlike Atom (omega arith))

  other_from : (room n last : ℕ) (rest : List ℕ) (place : ℕ) → n ≤ last + room → Other (claims_from width decode room n last rest place)
  other_from zero n last rest place enough =
      subst Other (sym (claims_by width decode n last rest place zero (opened width rest place) refl))
      (other_next n last rest place (more width decode n last rest place zero) (λ size above known. absurd (omega arith)) (opened width rest place) refl)
  other_from (suc room) n last rest place enough =
      subst Other (sym (claims_by width decode n last rest place (suc room) (opened width rest place) refl))
      (other_next n last rest place (more width decode n last rest place (suc room))
      (λ size above known. other_after (claim_of width decode rest size) _ (other_from room n (claim_of width decode rest size).atom (drop (4 + size) rest) (place + (4 + size)) (omega arith)))
      (opened width rest place) refl)

  other_file : (n kind : ℕ) (bytes : List ℕ) (o : Result ℕ Refusal) → Other o → Other (by_kind width decode n kind bytes o)
  other_file n kind bytes (Err e) other = other
  other_file n kind bytes (Ok k) other =
      cond_both (eqb k kind) (claims_from width decode n n 0 (drop 8 bytes) 8) (refuse LevelKind 0) Other
      (λ _. other_from n n 0 (drop 8 bytes) 8 (omega arith)) (λ _. unlike LevelKind (omega arith))

  pub never_too_many : (n kind : ℕ) (bytes : List ℕ) → NeverTooMany width decode n kind bytes
  never_too_many n kind bytes e = other_of (claims_in width decode n kind bytes) e (other_file n kind bytes (stated_kind n bytes) (other_kind n bytes))
