-- What the certificate reader answers, for every list of bytes: each check in its order, with its place. Assumes nothing.
use Rattle.std.specs.Prelude.{◌≡◌, ℕ, zero, suc, ◌+◌, ◌≤◌, Bool, true, cond, ◌||◌, List, [], ◌∷◌, length, drop, Some, None, Ok, Err, Option, Result, ◌==◌, nat_le, nat_lt}
use Rattle.std.specs.Option.{unwrap_or}
use Rattle.std.specs.List.{between}
use Rattle.refusal.specs.declared.Reason.{Reason}
use Rattle.refusal.specs.declared.Reason.TheVariants.{Cut, Kind, Length, Limit, Atom, Order, Trailing, LevelKind, AtomCount, RecordCount}
use Rattle.refusal.specs.declared.Layer.TheVariants.{Certificate}
use Rattle.refusal.specs.declared.Refusal.{Refusal}
use Rattle.refusal.specs.Refused.{refused}
use Rattle.records.specs.Words.{header_of, word_at}
use Rattle.records.specs.declared.Header.{Header}
use Rattle.rules.specs.Program.{within}
use Rattle.certificate.specs.declared.Claim.{Claim}
use Rattle.certificate.specs.declared.Step.{Step}

abbrev pub refusal_at : Reason → ℕ → Refusal
refusal_at why place = refused Certificate why place

abbrev pub refuse : {X : Type 0} → Reason → ℕ → Result X Refusal
refuse why place = Err (refusal_at why place)

-- THE HEAD: it is answered with the level kind that it states

-- the number of atoms is the one wanted
abbrev pub by_numbers : ℕ → Option ℕ → Option ℕ → Result ℕ Refusal
by_numbers n None k = refuse Cut 0
by_numbers n (Some m) None = refuse Cut 0
by_numbers n (Some m) (Some k) = cond (m == n) (Ok k) (refuse AtomCount 0)

abbrev pub by_head_header : ℕ → List ℕ → Option Header → Result ℕ Refusal
by_head_header n bytes None = refuse Cut 0
by_head_header n bytes (Some h) = cond (h.kind == 17) (cond (h.length == 4) (by_numbers n (word_at bytes 4) (word_at bytes 6)) (refuse Length 0)) (refuse Kind 0)

-- the level kind of a certificate for n atoms: the size first, then the head
abbrev pub stated_kind : ℕ → List ℕ → Result ℕ Refusal
stated_kind n bytes = cond (nat_le (length bytes) 65000) (by_head_header n bytes (header_of bytes)) (refuse Limit 0)

-- THE RECORDS AFTER THE HEAD: `rest` is what is left of the file, and begins at `place`; a level has `width` bytes

-- a claim has an atom, and a level or nothing
abbrev pub claim_length : ℕ → ℕ → Bool
claim_length width size = size == 2 || size == 2 + width

abbrev pub opened_claim : ℕ → List ℕ → ℕ → ℕ → Result (Option ℕ) Refusal
opened_claim width rest place size = cond (claim_length width size) (cond (nat_le (4 + size) (length rest)) (Ok (Some size)) (refuse Cut place)) (refuse Length place)

abbrev pub by_header : ℕ → List ℕ → ℕ → Option Header → Result (Option ℕ) Refusal
by_header width rest place None = refuse Cut place
by_header width rest place (Some h) = cond (h.kind == 18) (opened_claim width rest place h.length) (cond (h.kind == 3) (cond (h.length == 0) (Ok None) (refuse Length place)) (refuse Kind place))

-- which record stands here: whether it is cut, its kind, its length, its contents
abbrev pub opened : ℕ → List ℕ → ℕ → Result (Option ℕ) Refusal
opened width rest place = by_header width rest place (header_of rest)

-- what is known of a record that stands here
abbrev pub Fitting : ℕ → List ℕ → Result (Option ℕ) Refusal → Type 0
Fitting width rest (Err e) = Unit {0}
Fitting width rest (Ok None) = 4 ≤ length rest
Fitting width rest (Ok (Some size)) = (4 + size ≤ length rest) × (claim_length width size ≡ true) × (2 ≤ size)

-- the atom of a claim is one of 1 to n, and above the last one
abbrev pub atom_fault : ℕ → ℕ → ℕ → Option Reason
atom_fault n last atom = cond (within n atom) (cond (nat_lt last atom) None (Some Order)) (Some Atom)

-- a fault, as a call answers it
abbrev pub checked : ℕ → Option Reason → Result (Unit {0}) Refusal
checked place None = Ok tt
checked place (Some why) = refuse why place

-- the end record: nothing follows
abbrev pub ended : List ℕ → ℕ → Result (Unit {0}) Refusal
ended rest place = cond (length rest == 4) (Ok tt) (refuse Trailing (place + 4))

module _ {L : Type 0} (width : ℕ) (decode : List ℕ → L) where
  -- the level in a claim of `size` bytes
  abbrev pub level_in : List ℕ → ℕ → Option L
  level_in rest size = cond (size == 2) None (Some (decode (between 6 (4 + size) rest)))

  -- the claim in a record of `size` bytes
  abbrev pub claim_of : List ℕ → ℕ → Claim L
  claim_of rest size = record { atom = unwrap_or (word_at rest 4) 0; level = level_in rest size }

  -- the claim in a record that begins at a place, and where the next record begins
  abbrev pub step_at : List ℕ → ℕ → Result (Option ℕ) Refusal → Option (Step L)
  step_at bytes place (Err e) = None
  step_at bytes place (Ok None) = None
  step_at bytes place (Ok (Some size)) = Some (record { claim = claim_of (drop place bytes) size; next = place + (4 + size) })

  -- the claim at a place, or none where no claim's record stands
  abbrev pub claim_at : List ℕ → ℕ → Option (Step L)
  claim_at bytes place = step_at bytes place (opened width (drop place bytes) place)

  abbrev pub after_end : Result (Unit {0}) Refusal → Result (List (Claim L)) Refusal
  after_end (Ok u) = Ok []
  after_end (Err e) = Err e

  abbrev pub after_claim : Claim L → Result (List (Claim L)) Refusal → Result (List (Claim L)) Refusal
  after_claim c (Ok cs) = Ok (c ∷ cs)
  after_claim c (Err e) = Err e

  -- the claim c, if nothing is wrong with its atom, and then `more`
  abbrev pub by_fault : ℕ → Result (List (Claim L)) Refusal → Option Reason → Result (List (Claim L)) Refusal
  by_fault place more (Some why) = refuse why place
  by_fault place more None = more

  -- `more` are the claims from one of `size` bytes on
  abbrev pub next_record : ℕ → ℕ → List ℕ → ℕ → (ℕ → Result (List (Claim L)) Refusal) → Result (Option ℕ) Refusal → Result (List (Claim L)) Refusal
  next_record n last rest place more (Err e) = Err e
  next_record n last rest place more (Ok None) = after_end (ended rest place)
  next_record n last rest place more (Ok (Some size)) = by_fault place (more size) (atom_fault n last (claim_of rest size).atom)

  -- the claims from here on, over n atoms, where `last` is the last atom before and `room` more claims are allowed
  unfoldable pub claims_from : (room : ℕ) → ℕ → ℕ → List ℕ → ℕ → Result (List (Claim L)) Refusal
  claims_from zero n last rest place = next_record n last rest place (λ size. refuse RecordCount place) (opened width rest place)
  claims_from (suc room) n last rest place =
      next_record n last rest place (λ size. after_claim (claim_of rest size) (claims_from room n (claim_of rest size).atom (drop (4 + size) rest) (place + (4 + size)))) (opened width rest place)

  -- the level kind is the one wanted
  abbrev pub by_kind : ℕ → ℕ → List ℕ → Result ℕ Refusal → Result (List (Claim L)) Refusal
  by_kind n kind bytes (Err e) = Err e
  by_kind n kind bytes (Ok k) = cond (k == kind) (claims_from n n 0 (drop 8 bytes) 8) (refuse LevelKind 0)

  -- the claims in the bytes over n atoms with levels of that kind, or the refusal: the size and the head first, then the records in turn
  abbrev pub claims_in : ℕ → ℕ → List ℕ → Result (List (Claim L)) Refusal
  claims_in n kind bytes = by_kind n kind bytes (stated_kind n bytes)

abbrev pub counted : {L : Type 0} → Result (List (Claim L)) Refusal → Result ℕ Refusal
counted (Ok cs) = Ok (length cs)
counted (Err e) = Err e
