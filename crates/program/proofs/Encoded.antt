-- The bytes of a rule: what is written is read again, and what is read was so written. Assumes nothing.
use Rattle.std.proofs.Common.{◌≡◌, ℕ, suc, ◌+◌, ◌-◌, ◌*◌, ◌/◌, ◌<◌, ◌≤◌, List, ◌∷◌, ◌++◌, length, take, drop, unwrap_or, sym, ap, ◌∙◌, arith}
use Rattle.std.specs.List.{between}
use Rattle.std.proofs.lemmas.List.{append_assoc, length-append, length-drop, take-append-drop, take-take, take_at, drop_at, drop-drop, drop-take}
use Rattle.std.proofs.ByRecursion.{All-take, All-drop}
use Rattle.records.specs.Words.{Bytes, words, two_bytes, word_bytes, record_bytes, word_at}
use Rattle.records.proofs.Encoded.{word_of_two, length-word_bytes, word_bytes-append, words-word_bytes, word_bytes-words, first_word_bytes, first_word_there, first_two, header_of_record, record_here}
use Rattle.rules.specs.Program.{Rule, LawfulRule}
use Rattle.program.specs.Encoding.{rule_bytes}
use Rattle.program.specs.Reading.{rule_of}
use Rattle.program.specs.Here.{RuleHere, positive_bytes_length, negative_bytes_length, positive_length}

-- the numbers in a rule's record
abbrev pub rule_words : Rule → List ℕ
rule_words r = r.head ∷ (length r.positive ∷ (r.positive ++ r.negative))

-- the bytes of its contents
abbrev pub contents_size : Rule → ℕ
contents_size r = length (word_bytes (rule_words r))

pub contents_size_is : (r : Rule) → contents_size r ≡ 4 + 2 * (length r.positive + length r.negative)
contents_size_is r = omega (arith, length-word_bytes (rule_words r), length-append r.positive r.negative)

-- FROM WHAT IS WRITTEN

module _ (r : Rule) (tail : List ℕ) where
  -- the atoms, part by part
  parts_split : word_bytes (r.positive ++ r.negative) ++ tail ≡ word_bytes r.positive ++ (word_bytes r.negative ++ tail)
  parts_split = ap (λ t. t ++ tail) (word_bytes-append r.positive r.negative) ∙ append_assoc (word_bytes r.positive) (word_bytes r.negative) tail

  positive_read : words (between 8 (8 + 2 * length r.positive) (rule_bytes r ++ tail)) ≡ r.positive
  positive_read =
      let long : length (word_bytes r.positive) ≡ (8 + 2 * length r.positive) - 8 = omega (arith, length-word_bytes r.positive) in
      ap (λ t. words (take ((8 + 2 * length r.positive) - 8) t)) parts_split
      ∙ ap words (take_at (word_bytes r.positive) (word_bytes r.negative ++ tail) ((8 + 2 * length r.positive) - 8) long)
      ∙ words-word_bytes r.positive

  after_positive : drop (8 + 2 * length r.positive) (rule_bytes r ++ tail) ≡ word_bytes r.negative ++ tail
  after_positive =
      sym (drop-drop (2 * length r.positive) 8 (rule_bytes r ++ tail))
      ∙ ap (drop (2 * length r.positive)) parts_split
      ∙ drop_at (word_bytes r.positive) (word_bytes r.negative ++ tail) (2 * length r.positive) (length-word_bytes r.positive)

  negative_read : words (between (8 + 2 * length r.positive) (4 + contents_size r) (rule_bytes r ++ tail)) ≡ r.negative
  negative_read =
      let many = (4 + contents_size r) - (8 + 2 * length r.positive) in
      let long : length (word_bytes r.negative) ≡ (4 + contents_size r) - (8 + 2 * length r.positive) = omega (arith, length-word_bytes r.negative, contents_size_is r) in
      ap (λ t. words (take many t)) after_positive
      ∙ ap words (take_at (word_bytes r.negative) tail many long)
      ∙ words-word_bytes r.negative

  pub rule_of_bytes : rule_of (rule_bytes r ++ tail) (contents_size r) (length r.positive) ≡ r
  rule_of_bytes =
      ap (λ h. record { head = h; positive = words (between 8 (8 + 2 * length r.positive) (rule_bytes r ++ tail)); negative = words (between (8 + 2 * length r.positive) (4 + contents_size r) (rule_bytes r ++ tail)) }) (word_of_two r.head)
      ∙ ap (λ p. record { head = r.head; positive = p; negative = words (between (8 + 2 * length r.positive) (4 + contents_size r) (rule_bytes r ++ tail)) }) positive_read
      ∙ ap (λ q. record { head = r.head; positive = r.positive; negative = q }) negative_read

  pub written_here : (n : ℕ) → LawfulRule n r → RuleHere (rule_bytes r ++ tail) (contents_size r) (length r.positive)
  written_here n law =
      let size = contents_size_is r in
      let few = law.few_atoms in
      record {
        header = header_of_record 2 (word_bytes (rule_words r)) tail;
        whole = omega (arith, length-append (word_bytes (rule_words r)) tail);
        even = omega arith;
        short = omega arith;
        count_word = first_word_bytes (length r.positive) (word_bytes (r.positive ++ r.negative) ++ tail);
        counted = omega arith;
      }

-- FROM WHAT IS READ

module _ (rest : List ℕ) (size k : ℕ) (small : Bytes rest) (here : RuleHere rest size k) where
  -- the parts as they stand in the file
  abbrev left : List ℕ
  left = between 8 (8 + 2 * k) rest

  abbrev right : List ℕ
  right = between (8 + 2 * k) (4 + size) rest

  parts_joined : left ++ right ≡ take (size - 4) (drop 8 rest)
  parts_joined =
      let both = take (size - 4) (drop 8 rest) in
      let two : 8 + 2 * k - 8 ≡ 2 * k = omega arith in
      let more : size - 4 ≡ 2 * k + ((4 + size) - (8 + 2 * k)) = omega (arith, here.counted) in
      let few : 2 * k ≤ size - 4 = omega (arith, here.counted) in
      let first : take (2 * k) both ≡ left = take-take (2 * k) (size - 4) (drop 8 rest) few ∙ ap (λ n. take n (drop 8 rest)) (sym two) in
      let second : drop (2 * k) both ≡ right =
      ap (λ n. drop (2 * k) (take n (drop 8 rest))) more ∙ drop-take (2 * k) ((4 + size) - (8 + 2 * k)) (drop 8 rest)
      ∙ ap (take ((4 + size) - (8 + 2 * k))) (drop-drop (2 * k) 8 rest) in
      ap (λ t. t ++ right) (sym first) ∙ ap (λ t. take (2 * k) both ++ t) (sym second) ∙ take-append-drop (2 * k) both

  parts_bytes : word_bytes (words left ++ words right) ≡ take (size - 4) (drop 8 rest)
  parts_bytes =
      let small_left = All-take (λ b. b < 256) ((8 + 2 * k) - 8) (drop 8 rest) (All-drop (λ b. b < 256) 8 rest small) in
      let small_right = All-take (λ b. b < 256) ((4 + size) - (8 + 2 * k)) (drop (8 + 2 * k) rest) (All-drop (λ b. b < 256) (8 + 2 * k) rest small) in
      word_bytes-append (words left) (words right)
      ∙ ap (λ t. t ++ word_bytes (words right)) (word_bytes-words k left (positive_bytes_length rest size k here) small_left)
      ∙ ap (λ t. left ++ t) (word_bytes-words ((size - 4) / 2 - k) right (negative_bytes_length rest size k here) small_right)
      ∙ parts_joined

  -- the head and the count stand before the atoms
  two_words_first : drop 4 rest ≡ two_bytes (unwrap_or (word_at rest 4) 0) ++ (two_bytes k ++ drop 8 rest)
  two_words_first =
      let whole = here.whole in
      let counted = here.counted in
      let there : 2 ≤ length (drop 4 rest) = simp length-drop (omega arith) in
      first_two (drop 4 rest) (unwrap_or (word_at rest 4) 0) (All-drop (λ b. b < 256) 4 rest small) (first_word_there (drop 4 rest) there)
      ∙ ap (λ t. two_bytes (unwrap_or (word_at rest 4) 0) ++ t)
      (drop-drop 2 4 rest ∙ first_two (drop 6 rest) k (All-drop (λ b. b < 256) 6 rest small) here.count_word ∙ ap (λ t. two_bytes k ++ t) (drop-drop 2 6 rest))

  contents_read : take size (drop 4 rest) ≡ word_bytes (rule_words (rule_of rest size k))
  contents_read =
      let head = unwrap_or (word_at rest 4) 0 in
      let counted = here.counted in
      let four : size ≡ suc (suc (suc (suc (size - 4)))) = omega arith in
      ap (take size) two_words_first
      ∙ ap (λ n. take n (two_bytes head ++ (two_bytes k ++ drop 8 rest))) four
      ∙ ap (λ t. two_bytes head ++ (two_bytes k ++ t)) (sym parts_bytes)
      ∙ ap (λ n. two_bytes head ++ (two_bytes n ++ word_bytes (words left ++ words right))) (sym (positive_length rest size k here))

  pub rule_bytes_read : rest ≡ rule_bytes (rule_of rest size k) ++ drop (4 + size) rest
  rule_bytes_read = record_here rest size 2 small here.header here.whole ∙ ap (λ t. record_bytes 2 t ++ drop (4 + size) rest) contents_read
