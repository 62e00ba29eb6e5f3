-- The bytes that hold a program are its encoding, and the encoding is read as the program. Assumes nothing.
use Rattle.std.proofs.Common.{◌≡◌, ℕ, zero, suc, ◌+◌, ◌<◌, ◌≤◌, ◌&&◌, leb, List, [], ◌∷◌, ◌++◌, length, drop, Some, None, Ok, sym, refl, ap, ◌∙◌, subst, zero-add, arith}
use Rattle.std.specs.List.{flat_map, AllByRecursion}
use Rattle.std.proofs.lemmas.List.{append_assoc, nil_from_length, length-drop, drop-drop}
use Rattle.std.proofs.ByRecursion.{All-drop}
use Rattle.std.proofs.lemmas.Bool.{le-leb, and_from, cond-true}
use Rattle.refusal.specs.declared.Reason.TheVariants.{Limit}
use Rattle.records.specs.Words.{Bytes, two_bytes, word_bytes, word_at}
use Rattle.records.proofs.Encoded.{header_bytes, after_record, first_word_bytes, first_two}
use Rattle.rules.specs.Program.{Rule, Program, LawfulRule}
use Rattle.program.specs.Encoding.{rule_bytes, end_bytes, encoding, Storable}
use Rattle.program.specs.Reading.{refuse, by_numbers, file_head, opened, rule_of, atoms_fault, ended, after_end, after_rule, by_fault, rules_from, with_atoms, by_head, program_in}
use Rattle.program.specs.Relation.{ReadsExactly}
use Rattle.program.specs.Turns.{turn_of, none_left, one_more}
use Rattle.program.specs.Here.{RuleHere, rule_here}
use Rattle.program.specs.Head.{HeadHere, head_here}
use Rattle.program.specs.Lawful.{parts_of, parts_sound, program_lawful}
use Rattle.program.specs.declared.reader.FileHead.{FileHead}
use Rattle.program.proofs.Rules.{rules_end, rules_step}
use Rattle.program.proofs.Opened.{opened_from_rule, opened_from_end, end_here, ended_from, ended_so, lawful_no_fault}
use Rattle.program.proofs.Encoded.{rule_words, contents_size, rule_of_bytes, written_here, rule_bytes_read}

-- FROM THE ENCODING: the rules

module _ (n stated : ℕ) where
  pub rules_written : (rs : List Rule) (room count place : ℕ) → AllByRecursion (LawfulRule n) rs → length rs ≤ room → count + length rs ≡ stated
      → rules_from room n stated count (flat_map rule_bytes rs ++ end_bytes) place ≡ Ok rs
  rules_written [] room count place lawful fit sum =
      rules_end n stated count end_bytes place room (opened_from_end end_bytes place refl)
      ∙ ap after_end (ended_from end_bytes place count stated (omega arith) refl)
  rules_written (r ∷ rs) zero count place lawful fit sum = absurd (omega arith)
  rules_written (r ∷ rs) (suc room) count place lawful fit sum =
      let tail = flat_map rule_bytes rs ++ end_bytes in
      let rest = rule_bytes r ++ tail in
      let size = contents_size r in
      let k = length r.positive in
      let next = place + (4 + size) in
      let split : flat_map rule_bytes (r ∷ rs) ++ end_bytes ≡ rest = append_assoc (rule_bytes r) (flat_map rule_bytes rs) end_bytes in
      let is = opened_from_rule rest place size k (written_here r tail n lawful.0) in
      let more = ap (λ t. rules_from room n stated (count + 1) t next) (after_record 2 (word_bytes (rule_words r)) tail) ∙ rules_written rs room (count + 1) next lawful.1 (omega arith) (omega arith) in
      ap (λ t. rules_from (suc room) n stated count t place) split
      ∙ rules_step n stated count rest place size k is room
      ∙ ap (λ x. by_fault place x (rules_from room n stated (count + 1) (drop (4 + size) rest) next) (atoms_fault n x)) (rule_of_bytes r tail)
      ∙ ap (by_fault place r (rules_from room n stated (count + 1) (drop (4 + size) rest) next)) (lawful_no_fault n r lawful.0)
      ∙ ap (after_rule r) more

-- FROM WHAT IS READ: the rules

module _ (n stated : ℕ) where
  -- the rules were written here, as many as stated
  pub record RulesWritten (count : ℕ) (rest : List ℕ) (rs : List Rule) : Type 0 where
    pub written : rest ≡ flat_map rule_bytes rs ++ end_bytes
    pub counted : count + length rs ≡ stated

  end_read : (count : ℕ) (rest : List ℕ) (place : ℕ) → Bytes rest → opened rest place ≡ Ok None → ended rest place count stated ≡ Ok tt → RulesWritten count rest []
  end_read count rest place small at is =
      let last = ended_so rest place count stated is in
      let all = last.0 in
      let long = last.1 in
      let none : drop 4 rest ≡ [] = nil_from_length (drop 4 rest) (simp length-drop (omega arith)) in
      let written : rest ≡ end_bytes = header_bytes rest (record { length = 0; kind = 3 }) small (end_here rest place at) ∙ ap (λ t. two_bytes 0 ++ (two_bytes 3 ++ t)) none in
      record { written = written; counted = omega arith }

  rule_read : (count : ℕ) (rest : List ℕ) (size k : ℕ) (rs : List Rule) → Bytes rest → RuleHere rest size k → RulesWritten (count + 1) (drop (4 + size) rest) rs → RulesWritten count rest (rule_of rest size k ∷ rs)
  rule_read count rest size k rs small here more =
      let r = rule_of rest size k in
      let sum = more.counted in
      record {
        written = rule_bytes_read rest size k small here ∙ ap (λ t. rule_bytes r ++ t) more.written ∙ sym (append_assoc (rule_bytes r) (flat_map rule_bytes rs) end_bytes);
        counted = omega arith;
      }

  pub rules_read : (room count : ℕ) (rest : List ℕ) (place : ℕ) (rs : List Rule) → Bytes rest → rules_from room n stated count rest place ≡ Ok rs → RulesWritten count rest rs
  rules_read zero count rest place rs small is =
      elim (turn_of n stated count rest place rs zero is) [
        | none_left none at was ↦ subst (RulesWritten count rest) (sym none) (end_read count rest place small at was)
        | one_more less size k others room_is at fine was same ↦ absurd (omega (arith, room_is))
      ]
  rules_read (suc room) count rest place rs small is =
      elim (turn_of n stated count rest place rs (suc room) is) [
        | none_left none at was ↦ subst (RulesWritten count rest) (sym none) (end_read count rest place small at was)
        | one_more less size k others room_is at fine was same ↦
            let less_is : less ≡ room = omega (arith, room_is) in
            let later = rules_read room (count + 1) (drop (4 + size) rest) (place + (4 + size)) others (All-drop (λ b. b < 256) (4 + size) rest small)
            (subst (λ m. rules_from m n stated (count + 1) (drop (4 + size) rest) (place + (4 + size)) ≡ Ok others) less_is was) in
            subst (RulesWritten count rest) (sym same) (rule_read count rest size k others small (rule_here rest place size k at) later)
      ]

-- THE HEAD

head_written : (p : Program) → p.atoms ≤ 4096 → length p.rules ≤ 8000 → file_head (encoding p) ≡ Ok (record { atoms = p.atoms; rules = length p.rules })
head_written p few_atoms few_rules =
    let k = length p.rules in
    let rest = flat_map rule_bytes p.rules ++ end_bytes in
    ap (λ o. by_numbers o (word_at (encoding p) 6)) (first_word_bytes p.atoms (two_bytes k ++ rest))
    ∙ ap (by_numbers (Some p.atoms)) (first_word_bytes k rest)
    ∙ cond-true (leb p.atoms 4096 && leb k 8000) (Ok (record { atoms = p.atoms; rules = k })) (refuse Limit 0)
    (and_from (leb p.atoms 4096) (leb k 8000) (le-leb p.atoms 4096 few_atoms) (le-leb k 8000 few_rules))

-- the first eight bytes are the head's
head_read : (bytes : List ℕ) (h : FileHead) → Bytes bytes → HeadHere bytes h
    → bytes ≡ two_bytes 4 ++ (two_bytes 1 ++ (two_bytes h.atoms ++ (two_bytes h.rules ++ drop 8 bytes)))
head_read bytes h small here =
    let second = first_two (drop 6 bytes) h.rules (All-drop (λ b. b < 256) 6 bytes small) here.rules_word ∙ ap (λ t. two_bytes h.rules ++ t) (drop-drop 2 6 bytes) in
    let first = first_two (drop 4 bytes) h.atoms (All-drop (λ b. b < 256) 4 bytes small) here.atoms_word ∙ ap (λ t. two_bytes h.atoms ++ t) (drop-drop 2 4 bytes ∙ second) in
    header_bytes bytes (record { length = 4; kind = 1 }) small here.header ∙ ap (λ t. two_bytes 4 ++ (two_bytes 1 ++ t)) first

-- THE FILE

pub encoding_read : (p : Program) → Storable p → program_in (encoding p) ≡ Ok p
encoding_read p fits =
    let n = p.atoms in
    let k = length p.rules in
    let rest = flat_map rule_bytes p.rules ++ end_bytes in
    cond-true (leb (length (encoding p)) 65000) (by_head (encoding p) (file_head (encoding p))) (refuse Limit 0) (le-leb (length (encoding p)) 65000 fits.size_bound)
    ∙ ap (by_head (encoding p)) (head_written p fits.lawful.atoms_bound fits.rules_bound)
    ∙ ap (with_atoms n) (rules_written n k p.rules 8000 0 8 fits.lawful.each_lawful fits.rules_bound (zero-add k))

program_read : (bytes : List ℕ) (p : Program) → Bytes bytes → program_in bytes ≡ Ok p → Storable p × (bytes ≡ encoding p)
program_read bytes p small is =
    let parts = parts_of bytes p is in
    let h = parts.head in
    let rs = p.rules in
    let read = rules_read h.atoms h.rules 8000 0 (drop 8 bytes) 8 rs (All-drop (λ b. b < 256) 8 bytes small) parts.rules_read in
    let count : h.rules ≡ length rs = omega (arith, read.counted) in
    let same : bytes ≡ encoding p =
    head_read bytes h small (head_here bytes h parts.head_read)
    ∙ ap (λ t. two_bytes 4 ++ (two_bytes 1 ++ (two_bytes h.atoms ++ (two_bytes h.rules ++ t)))) read.written
    ∙ ap (λ m. two_bytes 4 ++ (two_bytes 1 ++ (two_bytes h.atoms ++ (two_bytes m ++ (flat_map rule_bytes rs ++ end_bytes))))) count
    ∙ ap (λ m. two_bytes 4 ++ (two_bytes 1 ++ (two_bytes m ++ (two_bytes (length rs) ++ (flat_map rule_bytes rs ++ end_bytes))))) parts.same_atoms in
    (record { lawful = program_lawful bytes p parts; rules_bound = (parts_sound bytes p parts).1; size_bound = subst (λ t. length t ≤ 65000) same parts.small }, same)

pub reads_exactly : (bytes : List ℕ) → Bytes bytes → ReadsExactly bytes
reads_exactly bytes small p = (program_read bytes p small, λ fits same. ap program_in same ∙ encoding_read p fits)
