-- Words and records, written as bytes and read again. Assumes nothing.
use Rattle.std.proofs.Common.{◌≡◌, ℕ, ◌+◌, ◌-◌, ◌*◌, ◌/◌, ◌%◌, ◌<◌, ◌≤◌, List, [], ◌∷◌, ◌++◌, length, get_or, take, drop, Some, unwrap_or, sym, refl, ap, ◌∙◌, arith, w8, Fits}
use Rattle.std.proofs.lemmas.List.{length-take, length-drop, take-append-drop, drop_at, drop-drop}
use Rattle.std.proofs.ByRecursion.{All-from_get_or}
use Rattle.records.specs.Words.{Bytes, word_of, words, two_bytes, word_bytes, record_bytes, header_of, first_word}
use Rattle.refusal.specs.Results.{some_not_none}
use Rattle.records.specs.declared.Header.{Header}

-- a slice of `u8` holds bytes
pub bytes_from_fits : (bs : List ℕ) → ((i : ℕ) → Fits w8 (get_or bs i 0)) → Bytes bs
bytes_from_fits bs typed = All-from_get_or (λ b. b < 256) bs 0 (λ i h. (typed i).fits)

-- WORDS

pub word_of_two : (n : ℕ) → word_of (n % 256) (n / 256) ≡ n
word_of_two n = omega arith

pub two_of_word : (low high : ℕ) → low < 256 → two_bytes (word_of low high) ≡ low ∷ (high ∷ [])
two_of_word low high h =
    let first : word_of low high % 256 ≡ low = omega arith in
    let second : word_of low high / 256 ≡ high = omega arith in
    ap (λ a. a ∷ (word_of low high / 256 ∷ [])) first ∙ ap (λ b. low ∷ (b ∷ [])) second

pub length-word_bytes : (ns : List ℕ) → length (word_bytes ns) ≡ 2 * length ns
length-word_bytes [] = refl
length-word_bytes (n ∷ ns) = omega (arith, length-word_bytes ns)

pub word_bytes-append : (ms ns : List ℕ) → word_bytes (ms ++ ns) ≡ word_bytes ms ++ word_bytes ns
word_bytes-append [] ns = refl
word_bytes-append (m ∷ ms) ns = ap (λ t. two_bytes m ++ t) (word_bytes-append ms ns)

pub words-word_bytes : (ns : List ℕ) → words (word_bytes ns) ≡ ns
words-word_bytes [] = refl
words-word_bytes (n ∷ ns) = ap (λ a. a ∷ words (word_bytes ns)) (word_of_two n) ∙ ap (λ t. n ∷ t) (words-word_bytes ns)

pub word_bytes-words : (k : ℕ) (bs : List ℕ) → length bs ≡ 2 * k → Bytes bs → word_bytes (words bs) ≡ bs
word_bytes-words k [] even small = refl
word_bytes-words k (a ∷ []) even small = absurd (omega arith)
word_bytes-words k (a ∷ (b ∷ rest)) even small =
    let less : length rest ≡ 2 * (k - 1) = omega arith in
    ap (λ t. t ++ word_bytes (words rest)) (two_of_word a b small.0) ∙ ap (λ t. a ∷ (b ∷ t)) (word_bytes-words (k - 1) rest less small.1.1)

pub first_word_bytes : (n : ℕ) (tail : List ℕ) → first_word (two_bytes n ++ tail) ≡ Some n
first_word_bytes n tail = ap Some (word_of_two n)

pub first_word_there : (bs : List ℕ) → 2 ≤ length bs → first_word bs ≡ Some (unwrap_or (first_word bs) 0)
first_word_there [] h = absurd (omega arith)
first_word_there (a ∷ []) h = absurd (omega arith)
first_word_there (a ∷ (b ∷ rest)) h = refl

-- the first two bytes are those of the first word
pub first_two : (bs : List ℕ) (n : ℕ) → Bytes bs → first_word bs ≡ Some n → bs ≡ two_bytes n ++ drop 2 bs
first_two [] n small is = absurd (some_not_none (sym is))
first_two (a ∷ []) n small is = absurd (some_not_none (sym is))
first_two (a ∷ (b ∷ rest)) n small is =
    let same : word_of a b ≡ n = cc in
    ap (λ t. t ++ rest) (sym (two_of_word a b small.0) ∙ ap two_bytes same)

-- RECORDS

pub length_record : (kind : ℕ) (contents : List ℕ) → length (record_bytes kind contents) ≡ 4 + length contents
length_record kind contents = omega arith

pub header_of_record : (kind : ℕ) (contents tail : List ℕ) → header_of (record_bytes kind contents ++ tail) ≡ Some (record { length = length contents; kind = kind })
header_of_record kind contents tail =
    ap (λ a. Some (record { length = a; kind = word_of (kind % 256) (kind / 256) })) (word_of_two (length contents))
    ∙ ap (λ b. Some (record { length = length contents; kind = b })) (word_of_two kind)

pub after_record : (kind : ℕ) (contents tail : List ℕ) → drop (4 + length contents) (record_bytes kind contents ++ tail) ≡ tail
after_record kind contents tail = drop_at (record_bytes kind contents) tail (4 + length contents) (length_record kind contents)

pub first_word_of_header : (bs : List ℕ) (h : Header) → header_of bs ≡ Some h → first_word bs ≡ Some h.length
first_word_of_header [] h is = absurd (some_not_none (sym is))
first_word_of_header (a ∷ []) h is = absurd (some_not_none (sym is))
first_word_of_header (a ∷ (b ∷ [])) h is = absurd (some_not_none (sym is))
first_word_of_header (a ∷ (b ∷ (c ∷ []))) h is = absurd (some_not_none (sym is))
first_word_of_header (a ∷ (b ∷ (c ∷ (d ∷ rest)))) h is =
    let same : record { length = word_of a b; kind = word_of c d } ≡ h = cc in
    ap (λ (x : Header). Some x.length) same

-- the first four bytes are the header's
pub header_bytes : (rest : List ℕ) (h : Header) → Bytes rest → header_of rest ≡ Some h → rest ≡ two_bytes h.length ++ (two_bytes h.kind ++ drop 4 rest)
header_bytes [] h small is = absurd (some_not_none (sym is))
header_bytes (a ∷ []) h small is = absurd (some_not_none (sym is))
header_bytes (a ∷ (b ∷ [])) h small is = absurd (some_not_none (sym is))
header_bytes (a ∷ (b ∷ (c ∷ []))) h small is = absurd (some_not_none (sym is))
header_bytes (a ∷ (b ∷ (c ∷ (d ∷ rest)))) h small is =
    let same : record { length = word_of a b; kind = word_of c d } ≡ h = cc in
    ap (λ t. t ++ (c ∷ (d ∷ rest))) (sym (two_of_word a b small.0))
    ∙ ap (λ t. two_bytes (word_of a b) ++ (t ++ rest)) (sym (two_of_word c d small.1.1.0))
    ∙ ap (λ (x : Header). two_bytes x.length ++ (two_bytes x.kind ++ rest)) same

-- bytes that begin with a header and have as many more as it says begin with a record
pub record_here : (rest : List ℕ) (size kind : ℕ) → Bytes rest → header_of rest ≡ Some (record { length = size; kind = kind }) → 4 + size ≤ length rest
    → rest ≡ record_bytes kind (take size (drop 4 rest)) ++ drop (4 + size) rest
record_here rest size kind small is whole =
    let contents = take size (drop 4 rest) in
    let long : length contents ≡ size = simp (length-take, length-drop) (omega arith) in
    header_bytes rest (record { length = size; kind = kind }) small is
    ∙ ap (λ t. two_bytes size ++ (two_bytes kind ++ t)) (sym (take-append-drop size (drop 4 rest)) ∙ ap (λ t. contents ++ t) (drop-drop size 4 rest))
    ∙ ap (λ n. two_bytes n ++ (two_bytes kind ++ (contents ++ drop (4 + size) rest))) (sym long)
