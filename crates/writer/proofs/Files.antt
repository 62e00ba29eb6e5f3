-- The file of a program, record by record. Assumes nothing.
use Rattle.std.proofs.Common.{◌≡◌, ℕ, zero, suc, ◌+◌, ◌-◌, ◌*◌, ◌<◌, ◌≤◌, List, [], ◌∷◌, ◌++◌, length, get_or, take, unwrap_or, sym, ap, ◌∙◌, arith}
use Rattle.std.specs.List.{flat_map, sum_by, range_with_len, AllByRecursion}
use Rattle.std.proofs.lemmas.List.Sums.{sum_by-cons}
use Rattle.std.proofs.lemmas.List.{append_assoc, length-append, take_more, take_all, flat_map_more}
use Rattle.records.specs.Words.{word_bytes}
use Rattle.records.proofs.Encoded.{length_record}
use Rattle.rules.specs.Program.{Rule, Program, LawfulRule, Lawful}
use Rattle.program.specs.Encoding.{head_bytes, rule_bytes, end_bytes, encoding}
use Rattle.program.proofs.Encoded.{rule_words, contents_size_is}
use Rattle.rules.proofs.Parts.{no_rule, rule_at-get_or}
use Rattle.writer.specs.Parts.{rule_or_empty}
use Rattle.writer.specs.Writing.{laid_over, before_end}
use Rattle.writer.proofs.Bytes.{laid_length, laid_again}

shorter : {X : Type 0} (f : X → List ℕ) (n : ℕ) (xs : List X) → length (flat_map f (take n xs)) ≤ length (flat_map f xs)
shorter f zero xs = omega arith
shorter f (suc n) [] = omega arith
shorter f (suc n) (x ∷ xs) = omega (arith, shorter f n xs, length-append (f x) (flat_map f (take n xs)), length-append (f x) (flat_map f xs))

-- no record of a lawful rule has more than 518 bytes
few_bytes : (n : ℕ) (rs : List Rule) → AllByRecursion (LawfulRule n) rs → length (flat_map rule_bytes rs) ≤ 518 * length rs
few_bytes n [] lawful = omega arith
few_bytes n (r ∷ rs) lawful = omega (arith, few_bytes n rs lawful.1, length-append (rule_bytes r) (flat_map rule_bytes rs), length_record 2 (word_bytes (rule_words r)), contents_size_is r, lawful.0.few_atoms)

module _ (p : Program) where
  -- the head, and the rules before rule k
  abbrev pub front : ℕ → List ℕ
  front k = head_bytes p ++ flat_map rule_bytes (take (k - 1) p.rules)

  pub front_more : (k : ℕ) → 1 ≤ k → k ≤ length p.rules → front k ++ rule_bytes (rule_or_empty p k) ≡ front (k + 1)
  front_more k some inside =
      let r = get_or p.rules (k - 1) no_rule in
      let next : k - 1 + 1 ≡ k + 1 - 1 = omega arith in
      let last : rule_or_empty p k ≡ r = ap (λ o. unwrap_or o (record { head = 0; positive = []; negative = [] })) (rule_at-get_or p k some inside) in
      ap (λ x. front k ++ rule_bytes x) last
      ∙ flat_map_more rule_bytes (head_bytes p) (take (k - 1) p.rules) r
      ∙ ap (λ rs. head_bytes p ++ flat_map rule_bytes rs) (sym (take_more p.rules (k - 1) no_rule (omega arith)))
      ∙ ap (λ n. head_bytes p ++ flat_map rule_bytes (take n p.rules)) next

  -- all rules stand before a rule past the last
  pub front_all : (k : ℕ) → length p.rules < k → front k ≡ before_end p
  front_all k past = ap (λ rs. head_bytes p ++ flat_map rule_bytes rs) (take_all (k - 1) p.rules (omega arith))

  pub before_and_end : before_end p ++ end_bytes ≡ encoding p
  before_and_end = append_assoc (head_bytes p) (flat_map rule_bytes p.rules) end_bytes

  pub end_length : length (before_end p) + 4 ≡ length (encoding p)
  end_length = sym (length-append (before_end p) end_bytes) ∙ ap length before_and_end

  pub file_bound : Lawful p → length (encoding p) ≤ 12 + 518 * 16384
  file_bound lawful = omega (arith, few_bytes p.atoms p.rules lawful.each_lawful, lawful.rules_bound, end_length)

  pub front_short : (k : ℕ) → length (front k) + 4 ≤ length (encoding p)
  front_short k = omega (arith, shorter rule_bytes (k - 1) p.rules, end_length)

  module _ (k : ℕ) (some : 1 ≤ k) (inside : k ≤ length p.rules) where
    pub front_length : length (front k) + length (rule_bytes (rule_or_empty p k)) ≡ length (front (k + 1))
    front_length = sym (length-append (front k) (rule_bytes (rule_or_empty p k))) ∙ ap length (front_more k some inside)

    pub rule_room : length (front k) + length (rule_bytes (rule_or_empty p k)) + 4 ≤ length (encoding p)
    rule_room = omega (arith, front_length, front_short (k + 1))

  -- the sizes of the rules from rule k on
  sizes_from : (many k : ℕ) → 1 ≤ k → k + many ≤ length p.rules + 1 → length (front k) + sum_by (λ k. length (rule_bytes (rule_or_empty p k))) (range_with_len k many) ≡ length (front (k + many))
  sizes_from zero k some inside = let same : k ≡ k + 0 = omega arith in omega (arith, ap (λ k. length (front k)) same)
  sizes_from (suc many) k some inside =
      let same : k + 1 + many ≡ k + suc many = omega arith in
      omega (arith, sum_by-cons (λ k. length (rule_bytes (rule_or_empty p k))) k (range_with_len (k + 1) many), front_length k some (omega arith), sizes_from many (k + 1) (omega arith) (omega arith), ap (λ k. length (front k)) same)

  -- the sizes of all rules, the head and the end make the file's
  pub sizes : 12 + sum_by (λ k. length (rule_bytes (rule_or_empty p k))) (range_with_len 1 (length p.rules)) ≡ length (encoding p)
  sizes = omega (arith, sizes_from (length p.rules) 1 (omega arith) (omega arith), ap length (front_all (1 + length p.rules) (omega arith)), end_length)

  -- after the head is written
  module _ (out now : List ℕ) (now_is : now ≡ laid_over (head_bytes p) out) (room : length (encoding p) ≤ length out) where
    pub room_after_head : length (encoding p) ≤ length now
    room_after_head = omega (arith, ap length now_is ∙ laid_length (head_bytes p) out (omega (arith, room)), room)

    pub over_head : laid_over (before_end p) now ≡ laid_over (before_end p) out
    over_head = ap (laid_over (before_end p)) now_is ∙ laid_again (head_bytes p) (flat_map rule_bytes p.rules) out
