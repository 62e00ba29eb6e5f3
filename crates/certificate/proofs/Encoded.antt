-- The bytes of a claim: what is written is read again, and what is read was so written. Assumes nothing.
use Rattle.std.proofs.Common.{◌≡◌, ℕ, suc, ◌+◌, ◌-◌, ◌<◌, ◌≤◌, true, eqb, List, ◌++◌, length, take, drop, unwrap_or, sym, refl, ap, ◌∙◌, ⊎_elim, arith, Some, None, Option}
use Rattle.std.specs.List.{between}
use Rattle.std.proofs.lemmas.List.{length-append, length-take, length-drop, take_at, drop-drop}
use Rattle.std.proofs.ByRecursion.{All-take, All-drop}
use Rattle.std.proofs.lemmas.Bool.{eqb-true, eq-eqb, ne_eqb, or_cases, or_right, cond-true, cond-false}
use Rattle.records.specs.Words.{Bytes, two_bytes, record_bytes, word_at}
use Rattle.records.proofs.Encoded.{word_of_two, first_word_there, first_two, header_of_record, record_here}
use Rattle.levels.specs.Stored.{Stored}
use Rattle.certificate.specs.Encoding.{level_bytes, claim_bytes}
use Rattle.certificate.specs.Reading.{claim_length, level_in, claim_of}
use Rattle.certificate.specs.declared.Claim.{Claim}
use Rattle.certificate.proofs.Standing.{ClaimHere}

module _ {L : Type 0} (encode : L → List ℕ) where
  -- the contents of a claim's record
  abbrev pub contents : Claim L → List ℕ
  contents c = two_bytes c.atom ++ level_bytes encode c.level

module _ {L : Type 0} (width : ℕ) (encode : L → List ℕ) (decode : List ℕ → L) (stored : Stored width encode decode) where
  -- FROM WHAT IS WRITTEN

  entry_long : (a : ℕ) (e : Option L) → claim_length width (length (two_bytes a ++ level_bytes encode e)) ≡ true
  entry_long a None = refl
  entry_long a (Some x) =
      let size = length (two_bytes a ++ encode x) in
      or_right (eqb size 2) (eqb size (2 + width)) (eq-eqb size (2 + width) (omega (arith, stored.sized x)))

  entry_read : (a : ℕ) (e : Option L) (tail : List ℕ) → level_in width decode (record_bytes 18 (two_bytes a ++ level_bytes encode e) ++ tail) (length (two_bytes a ++ level_bytes encode e)) ≡ e
  entry_read a None tail = refl
  entry_read a (Some x) tail =
      let rest = record_bytes 18 (two_bytes a ++ encode x) ++ tail in
      let size = length (two_bytes a ++ encode x) in
      let some = stored.some in
      let sized = stored.sized x in
      let long : length (encode x) ≡ (4 + size) - 6 = omega arith in
      cond-false (eqb size 2) None (Some (decode (between 6 (4 + size) rest))) (ne_eqb size 2 (λ same. omega arith))
      ∙ ap (λ t. Some (decode t)) (take_at (encode x) tail ((4 + size) - 6) long)
      ∙ ap Some (stored.read_written x)

  module _ (c : Claim L) (tail : List ℕ) where
    pub claim_of_bytes : claim_of width decode (claim_bytes encode c ++ tail) (length (contents encode c)) ≡ c
    claim_of_bytes =
        ap (λ a. record { atom = a; level = level_in width decode (claim_bytes encode c ++ tail) (length (contents encode c)) }) (word_of_two c.atom)
        ∙ ap (λ e. record { atom = c.atom; level = e }) (entry_read c.atom c.level tail)

    pub written_here : ClaimHere width (claim_bytes encode c ++ tail) (length (contents encode c))
    written_here = record {
      header = header_of_record 18 (contents encode c) tail;
      long = entry_long c.atom c.level;
      whole = omega (arith, length-append (level_bytes encode c.level) tail);
    }

  -- FROM WHAT IS READ

  module _ (rest : List ℕ) (size : ℕ) (small : Bytes rest) (here : ClaimHere width rest size) where
    -- the bytes after the atom
    abbrev level_part : List ℕ
    level_part = take (size - 2) (drop 6 rest)

    no_level_read : size ≡ 2 → level_bytes encode (level_in width decode rest size) ≡ level_part
    no_level_read same =
        let none : size - 2 ≡ 0 = omega arith in
        ap (level_bytes encode) (cond-true (eqb size 2) None (Some (decode (between 6 (4 + size) rest))) (eq-eqb size 2 same))
        ∙ ap (λ n. take n (drop 6 rest)) (sym none)

    level_read : size ≡ 2 + width → level_bytes encode (level_in width decode rest size) ≡ level_part
    level_read same =
        let some = stored.some in
        let whole = here.whole in
        let part = between 6 (4 + size) rest in
        let long : length (between 6 (4 + size) rest) ≡ width = simp (length-take, length-drop) (omega arith) in
        let fits = All-take (λ b. b < 256) ((4 + size) - 6) (drop 6 rest) (All-drop (λ b. b < 256) 6 rest small) in
        let less : (4 + size) - 6 ≡ size - 2 = omega arith in
        ap (level_bytes encode) (cond-false (eqb size 2) None (Some (decode part)) (ne_eqb size 2 (λ two. omega arith)))
        ∙ stored.written_read part long fits
        ∙ ap (λ n. take n (drop 6 rest)) less

    -- a claim has at least its atom
    two_or_more : 2 ≤ size
    two_or_more = ⊎_elim (λ h. omega (arith, eqb-true size 2 h)) (λ h. omega (arith, eqb-true size (2 + width) h)) (or_cases (eqb size 2) (eqb size (2 + width)) here.long)

    contents_read : take size (drop 4 rest) ≡ contents encode (claim_of width decode rest size)
    contents_read =
        let atom = unwrap_or (word_at rest 4) 0 in
        let whole = here.whole in
        let two = two_or_more in
        let there : 2 ≤ length (drop 4 rest) = simp length-drop (omega arith) in
        let more : size ≡ suc (suc (size - 2)) = omega arith in
        let level : level_bytes encode (level_in width decode rest size) ≡ level_part =
        ⊎_elim (λ h. no_level_read (eqb-true size 2 h)) (λ h. level_read (eqb-true size (2 + width) h)) (or_cases (eqb size 2) (eqb size (2 + width)) here.long) in
        ap (take size) (first_two (drop 4 rest) atom (All-drop (λ b. b < 256) 4 rest small) (first_word_there (drop 4 rest) there) ∙ ap (λ t. two_bytes atom ++ t) (drop-drop 2 4 rest))
        ∙ ap (λ n. take n (two_bytes atom ++ drop 6 rest)) more
        ∙ ap (λ t. two_bytes atom ++ t) (sym level)

    pub claim_bytes_read : rest ≡ claim_bytes encode (claim_of width decode rest size) ++ drop (4 + size) rest
    claim_bytes_read = record_here rest size 18 small here.header here.whole ∙ ap (λ t. record_bytes 18 t ++ drop (4 + size) rest) contents_read
