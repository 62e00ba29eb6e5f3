-- The bytes that hold claims are their encoding, and the encoding is read as the claims. Assumes nothing.
use Rattle.std.proofs.Common.{◌≡◌, ℕ, zero, suc, ◌+◌, ◌<◌, ◌≤◌, true, eqb, ltb, leb, List, [], ◌∷◌, ◌++◌, length, drop, Some, None, Ok, Err, Option, Result, sym, refl, ap, ◌∙◌, subst, ⊎_elim, arith}
use Rattle.std.specs.List.{flat_map}
use Rattle.std.proofs.lemmas.List.{append_assoc, nil_from_length, length-drop, drop-drop}
use Rattle.std.proofs.ByRecursion.{All-drop}
use Rattle.std.proofs.lemmas.Bool.{leb-true, ltb-true, eqb-true, le-leb, eq-eqb, and_parts, and_from, cond-true}
use Rattle.refusal.specs.Results.{err_not_ok, passed}
use Rattle.refusal.specs.declared.Reason.TheVariants.{Limit, LevelKind, AtomCount}
use Rattle.refusal.specs.declared.Refusal.{Refusal}
use Rattle.records.specs.Words.{Bytes, two_bytes, header_of, word_at}
use Rattle.records.specs.declared.Header.{Header}
use Rattle.records.proofs.Encoded.{header_bytes, after_record, first_word_bytes, first_two}
use Rattle.rules.specs.Program.{within, ascends_above, ascending}
use Rattle.rules.specs.Tests.{all}
use Rattle.levels.specs.Stored.{Stored}
use Rattle.certificate.specs.Claims.{atoms_of}
use Rattle.certificate.specs.Encoding.{head_bytes, claim_bytes, end_bytes, encoding, Storable}
use Rattle.certificate.specs.Reading.{refuse, by_numbers, by_head_header, stated_kind, claim_of, atom_fault, after_end, after_claim, by_fault, claims_from, by_kind, claims_in}
use Rattle.certificate.specs.Relation.{ReadsExactly}
use Rattle.certificate.specs.declared.Claim.{Claim}
use Rattle.certificate.proofs.Claims.{claims_by, Ends, Goes, turn}
use Rattle.certificate.proofs.Standing.{opened_from_claim, claim_here, opened_from_end, end_here, ended_from, ended_so, no_fault, sound_so}
use Rattle.certificate.proofs.Encoded.{contents, claim_of_bytes, written_here, claim_bytes_read}

-- THE HEAD

head_written : (n kind : ℕ) (rest : List ℕ) → length (head_bytes n kind ++ rest) ≤ 65000 → stated_kind n (head_bytes n kind ++ rest) ≡ Ok kind
head_written n kind rest size =
    let bytes = head_bytes n kind ++ rest in
    cond-true (leb (length bytes) 65000) (by_head_header n bytes (header_of bytes)) (refuse Limit 0) (le-leb (length bytes) 65000 size)
    ∙ ap (λ o. by_numbers n o (word_at bytes 6)) (first_word_bytes n (two_bytes kind ++ rest))
    ∙ ap (by_numbers n (Some n)) (first_word_bytes kind rest)
    ∙ cond-true (eqb n n) (Ok kind) (refuse AtomCount 0) (eq-eqb n n refl)

-- what is known of a head that was read
record HeadRead (n : ℕ) (bytes : List ℕ) (kind : ℕ) : Type 0 where
  header : header_of bytes ≡ Some (record { length = 4; kind = 17 })
  atoms_there : word_at bytes 4 ≡ Some n
  kind_there : word_at bytes 6 ≡ Some kind

module _ (n : ℕ) (bytes : List ℕ) (kind : ℕ) where
  numbers_read : header_of bytes ≡ Some (record { length = 4; kind = 17 })
      → (a b : Option ℕ) → word_at bytes 4 ≡ a → word_at bytes 6 ≡ b → by_numbers n a b ≡ Ok kind → HeadRead n bytes kind
  numbers_read header None b first second is = absurd (err_not_ok is)
  numbers_read header (Some m) None first second is = absurd (err_not_ok is)
  numbers_read header (Some m) (Some k) first second is =
      let both = passed (eqb m n) err_not_ok is in
      let same : k ≡ kind = let found = both.1 in cc in
      record { header = header; atoms_there = first ∙ ap Some (eqb-true m n both.0); kind_there = second ∙ ap Some same }

  head_by_header : (o : Option Header) → header_of bytes ≡ o → by_head_header n bytes o ≡ Ok kind → HeadRead n bytes kind
  head_by_header None header is = absurd (err_not_ok is)
  head_by_header (Some x) header is =
      let numbers = by_numbers n (word_at bytes 4) (word_at bytes 6) in
      let first = passed (eqb x.kind 17) err_not_ok is in
      let second = passed (eqb x.length 4) err_not_ok first.1 in
      let there : header_of bytes ≡ Some (record { length = 4; kind = 17 }) =
      header ∙ ap (λ m. Some (record { length = m; kind = x.kind })) (eqb-true x.length 4 second.0) ∙ ap (λ m. Some (record { length = 4; kind = m })) (eqb-true x.kind 17 first.0) in
      numbers_read there (word_at bytes 4) (word_at bytes 6) refl refl second.1

  head_read : stated_kind n bytes ≡ Ok kind → (length bytes ≤ 65000) × HeadRead n bytes kind
  head_read is =
      let sized = passed (leb (length bytes) 65000) err_not_ok is in
      (leb-true (length bytes) 65000 sized.0, head_by_header (header_of bytes) refl sized.1)

  -- the first eight bytes are the head's
  head_bytes_read : Bytes bytes → HeadRead n bytes kind → bytes ≡ head_bytes n kind ++ drop 8 bytes
  head_bytes_read small read =
      let second = first_two (drop 6 bytes) kind (All-drop (λ b. b < 256) 6 bytes small) read.kind_there ∙ ap (λ t. two_bytes kind ++ t) (drop-drop 2 6 bytes) in
      let first = first_two (drop 4 bytes) n (All-drop (λ b. b < 256) 4 bytes small) read.atoms_there ∙ ap (λ t. two_bytes n ++ t) (drop-drop 2 4 bytes ∙ second) in
      header_bytes bytes (record { length = 4; kind = 17 }) small read.header ∙ ap (λ t. two_bytes 4 ++ (two_bytes 17 ++ t)) first

-- THE CLAIMS

-- atoms that ascend from 0 on ascend
ascending_from : (atoms : List ℕ) → ascends_above 0 atoms ≡ true → ascending atoms ≡ true
ascending_from [] is = refl
ascending_from (a ∷ rest) is = (and_parts (ltb 0 a) (ascends_above a rest) is).1

from_ascending : (n : ℕ) (atoms : List ℕ) → all (within n) atoms ≡ true → ascending atoms ≡ true → ascends_above 0 atoms ≡ true
from_ascending n [] known is = refl
from_ascending n (a ∷ rest) known is =
    let first = and_parts (leb 1 a) (leb a n) (and_parts (within n a) (all (within n) rest) known).0 in
    and_from (ltb 0 a) (ascends_above a rest) first.0 is

module _ {L : Type 0} (width : ℕ) (encode : L → List ℕ) (decode : List ℕ → L) (stored : Stored width encode decode) (n : ℕ) where
  -- FROM THE ENCODING

  claims_written : (cs : List (Claim L)) (room last place : ℕ) → all (within n) (atoms_of cs) ≡ true → ascends_above last (atoms_of cs) ≡ true → n ≤ last + room
      → claims_from width decode room n last (flat_map (claim_bytes encode) cs ++ end_bytes) place ≡ Ok cs
  claims_written [] room last place known ascends enough =
      claims_by width decode n last end_bytes place room (Ok None) (opened_from_end width end_bytes place refl)
      ∙ ap (after_end width decode) (ended_from end_bytes place refl)
  claims_written (c ∷ cs) zero last place known ascends enough =
      let first = and_parts (leb 1 c.atom) (leb c.atom n) (and_parts (within n c.atom) (all (within n) (atoms_of cs)) known).0 in
      let above = and_parts (ltb last c.atom) (ascends_above c.atom (atoms_of cs)) ascends in
      absurd (omega (arith, leb-true c.atom n first.1, ltb-true last c.atom above.0))
  claims_written (c ∷ cs) (suc room) last place known ascends enough =
      let tail = flat_map (claim_bytes encode) cs ++ end_bytes in
      let rest = claim_bytes encode c ++ tail in
      let size = length (contents encode c) in
      let next = place + (4 + size) in
      let passes = and_parts (within n c.atom) (all (within n) (atoms_of cs)) known in
      let above = and_parts (ltb last c.atom) (ascends_above c.atom (atoms_of cs)) ascends in
      let higher : last < c.atom = ltb-true last c.atom above.0 in
      let split : flat_map (claim_bytes encode) (c ∷ cs) ++ end_bytes ≡ rest = append_assoc (claim_bytes encode c) (flat_map (claim_bytes encode) cs) end_bytes in
      let is = opened_from_claim width rest place size (written_here width encode decode stored c tail) in
      let more = ap (λ t. claims_from width decode room n c.atom t next) (after_record 18 (contents encode c) tail)
      ∙ claims_written cs room c.atom next passes.1 above.1 (omega arith) in
      ap (λ t. claims_from width decode (suc room) n last t place) split
      ∙ claims_by width decode n last rest place (suc room) (Ok (Some size)) is
      ∙ ap (λ (x : Claim L). by_fault width decode place (after_claim width decode x (claims_from width decode room n x.atom (drop (4 + size) rest) next)) (atom_fault n last x.atom)) (claim_of_bytes width encode decode stored c tail)
      ∙ ap (by_fault width decode place (after_claim width decode c (claims_from width decode room n c.atom (drop (4 + size) rest) next))) (no_fault n last c.atom passes.0 above.0)
      ∙ ap (after_claim width decode c) more

  -- FROM WHAT IS READ

  -- what is known of claims that were read
  record ClaimsRead (last : ℕ) (rest : List ℕ) (cs : List (Claim L)) : Type 0 where
    known : all (within n) (atoms_of cs) ≡ true
    ascends : ascends_above last (atoms_of cs) ≡ true
    written : rest ≡ flat_map (claim_bytes encode) cs ++ end_bytes

  end_read : (last : ℕ) (rest : List ℕ) (place : ℕ) (cs : List (Claim L)) → Bytes rest → Ends width decode n last rest place cs → ClaimsRead last rest cs
  end_read last rest place cs small end =
      let long = ended_so rest place tt end.whole in
      let none : drop 4 rest ≡ [] = nil_from_length (drop 4 rest) (simp length-drop (omega arith)) in
      subst (ClaimsRead last rest) (sym end.none) (record {
        known = refl;
        ascends = refl;
        written = header_bytes rest (record { length = 0; kind = 3 }) small (end_here width rest place end.is) ∙ ap (λ t. two_bytes 0 ++ (two_bytes 3 ++ t)) none;
      })

  claim_read : (room last : ℕ) (rest : List ℕ) (place : ℕ) (cs : List (Claim L)) → Bytes rest → (goes : Goes width decode n last rest place room cs)
      → ClaimsRead (claim_of width decode rest goes.size).atom (drop (4 + goes.size) rest) goes.claims' → ClaimsRead last rest cs
  claim_read room last rest place cs small goes read =
      let c = claim_of width decode rest goes.size in
      let after = goes.claims' in
      let sound = sound_so n last c.atom goes.sound in
      subst (ClaimsRead last rest) (sym goes.first) (record {
        known = and_from (within n c.atom) (all (within n) (atoms_of after)) sound.0 read.known;
        ascends = and_from (ltb last c.atom) (ascends_above c.atom (atoms_of after)) sound.1 read.ascends;
        written = claim_bytes_read width encode decode stored rest goes.size small (claim_here width rest place goes.size goes.is)
            ∙ ap (λ t. claim_bytes encode c ++ t) read.written
            ∙ sym (append_assoc (claim_bytes encode c) (flat_map (claim_bytes encode) after) end_bytes);
      })

  claims_read : (room last : ℕ) (rest : List ℕ) (place : ℕ) (cs : List (Claim L)) → Bytes rest → claims_from width decode room n last rest place ≡ Ok cs → ClaimsRead last rest cs
  claims_read zero last rest place cs small is =
      ⊎_elim (end_read last rest place cs small) (λ goes. absurd (omega (arith, goes.roomy))) (turn width decode n last rest place zero cs is)
  claims_read (suc room) last rest place cs small is =
      ⊎_elim (end_read last rest place cs small)
      (λ (goes : Goes width decode n last rest place (suc room) cs).
      let size = goes.size in
      let atom = (claim_of width decode rest size).atom in
      let same : goes.room' ≡ room = omega (arith, goes.roomy) in
      let found = ap (λ m. claims_from width decode m n atom (drop (4 + size) rest) (place + (4 + size))) (sym same) ∙ goes.after in
      claim_read (suc room) last rest place cs small goes (claims_read room atom (drop (4 + size) rest) (place + (4 + size)) goes.claims' (All-drop (λ b. b < 256) (4 + size) rest small) found))
      (turn width decode n last rest place (suc room) cs is)

  -- THE FILE

  module _ (kind : ℕ) (cs : List (Claim L)) where
    encoding_read : Storable encode n kind cs → claims_in width decode n kind (encoding encode n kind cs) ≡ Ok cs
    encoding_read fits =
        let rest = flat_map (claim_bytes encode) cs ++ end_bytes in
        let lawful = fits.lawful in
        ap (by_kind width decode n kind (encoding encode n kind cs)) (head_written n kind rest fits.size_bound)
        ∙ cond-true (eqb kind kind) (claims_from width decode n n 0 rest 8) (refuse LevelKind 0) (eq-eqb kind kind refl)
        ∙ claims_written cs n 0 8 lawful.known (from_ascending n (atoms_of cs) lawful.known lawful.ascends) (omega arith)

    file_read : (bytes : List ℕ) → Bytes bytes → (o : Result ℕ Refusal) → stated_kind n bytes ≡ o → by_kind width decode n kind bytes o ≡ Ok cs → Storable encode n kind cs × (bytes ≡ encoding encode n kind cs)
    file_read bytes small (Err e) at is = absurd (err_not_ok is)
    file_read bytes small (Ok k) at is =
        let both = passed (eqb k kind) err_not_ok is in
        let head = head_read n bytes kind (at ∙ ap Ok (eqb-true k kind both.0)) in
        let read = claims_read n 0 (drop 8 bytes) 8 cs (All-drop (λ b. b < 256) 8 bytes small) both.1 in
        let same : bytes ≡ encoding encode n kind cs = head_bytes_read n bytes kind small head.1 ∙ ap (λ t. head_bytes n kind ++ t) read.written in (
          record {
            lawful = record { known = read.known; ascends = ascending_from (atoms_of cs) read.ascends };
            size_bound = subst (λ t. length t ≤ 65000) same head.0;
          },
          same,
        )

  pub reads_exactly : (kind : ℕ) (bytes : List ℕ) → Bytes bytes → ReadsExactly width encode decode n kind bytes
  reads_exactly kind bytes small cs =
      (file_read kind cs bytes small (stated_kind n bytes) refl, λ fits same. ap (claims_in width decode n kind) same ∙ encoding_read kind cs fits)
