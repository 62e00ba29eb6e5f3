-- The chains of the rules from k on, put together from the last rule to the first. Assumes nothing.
use Rattle.std.proofs.Common.{◌≡◌, ℕ, zero, suc, ◌+◌, ◌-◌, ◌<◌, ◌≤◌, Bool, false, cond, eqb, ltb, List, length, replicate, Some, None, Option, option_map, unwrap_or, sym, refl, ap, ◌∙◌, arith}
use Rattle.std.proofs.lemmas.Bool.{cond-false, cond_both, eq-eqb, ltb-false, ne_eqb}
use Rattle.std.proofs.lemmas.Option.{slice_get_past}
use Rattle.rules.specs.Program.{LawfulRule, Lawful, Program, Rule}
use Rattle.rules.specs.Questions.{head_at, rule_at}
use Rattle.rules.specs.Tests.{first_from}
use Rattle.rules.proofs.Parts.{OfRule, of_rule_at, rule_at-get_or, rule_at_nth}
use Rattle.rules.proofs.Tests.{lowest_from_here, lowest_from_more, some_not_none}
use Rattle.tables.specs.Entries.{table_of, with_put}
use Rattle.tables.proofs.Entries.{changed, changed_back, entry_of_table, table_put, table_replicate, table_same}
use Rattle.support.specs.Chains.{after_head, has_head, number_at, number_of, numbered, rule_from}
use Rattle.support.specs.declared.heads.RulesByHead.{RulesByHead}

-- an index is its entries
pub same_heads : (x y : RulesByHead) → x.first ≡ y.first → x.next ≡ y.next → x ≡ y
same_heads x y first next = ap (λ xs. record { first = xs; next = x.next }) first ∙ ap (λ xs. record { first = y.first; next = xs }) next

-- what is found from 1 or later on is told by its number
pub found_numbered : (test : ℕ → Bool) (from many : ℕ) → 1 ≤ from → numbered (number_of (first_from test from many)) ≡ first_from test from many
found_numbered test from zero some = refl
found_numbered test from (suc many) some =
    cond_both (test from) (Some from) (first_from test (from + 1) many) (λ o. numbered (number_of o) ≡ o)
    (λ t. cond-false (eqb from 0) None (Some from) (ne_eqb from 0 (λ z. omega arith)))
    (λ f. found_numbered test (from + 1) many (omega arith))

-- the head of a lawful rule is one of n atoms, or 0
known : (n : ℕ) (r : Option Rule) → OfRule (LawfulRule n) r → (a : ℕ) → option_map (λ r. r.head) r ≡ Some a → a ≤ n
known n None lawful a is = absurd (some_not_none (sym is))
known n (Some r) lawful a is = let same : r.head ≡ a = cc in omega (arith, lawful.head_known)

module _ (p : Program) where
  -- the rule after rule k in its chain
  abbrev pub rule_after : ℕ → Option ℕ
  rule_after k = after_head p k (head_at p k)

  -- a rule past the last is absent
  pub rule_past : (k : ℕ) → length p.rules < k → rule_at p k ≡ None
  rule_past k past = rule_at_nth p k (omega arith) ∙ slice_get_past p.rules (k - 1) (omega arith)

  -- and one up to the last is there
  pub head_there : (k : ℕ) → 1 ≤ k → k ≤ length p.rules → head_at p k ≡ None → ⊥
  head_there k some within none = some_not_none (sym (ap (option_map (λ r. r.head)) (rule_at-get_or p k some within)) ∙ none)

  -- over tables of m atoms and n rules
  module _ (m n : ℕ) where
    -- the first rule from k on of each atom
    abbrev pub firsts : ℕ → List ℕ
    firsts k = table_of (λ a. number_of (rule_from p a k)) m

    -- the rules after those from k on
    abbrev pub nexts : ℕ → List ℕ
    nexts k = changed (λ j. 0) (λ j. number_of (rule_after j)) n k

    -- from past the last rule on there is none
    module _ (k : ℕ) (past : length p.rules < k) where
      pub no_firsts : replicate m 0 ≡ firsts k
      no_firsts =
          let few : length p.rules + 1 - k ≡ 0 = omega arith in
          table_replicate 0 m ∙ table_same (λ a. 0) (λ a. number_of (rule_from p a k)) m (λ a some within. rw few refl)

      pub no_nexts : replicate n 0 ≡ nexts k
      no_nexts =
          table_replicate 0 n
          ∙ table_same (λ j. 0) (λ j. cond (ltb j k) 0 (number_of (rule_after j))) n
          (λ j some within. cond_both (ltb j k) 0 (number_of (rule_after j)) (λ o. 0 ≡ o) (λ early. refl) (λ late. sym (ap (λ r. number_of (after_head p j (option_map (λ r. r.head) r))) (rule_past j (omega (arith, ltb-false j k late))))))

    -- the first rule from k on of the atom a, as the entries say; 0 has none
    pub first_entry : (k a : ℕ) → a ≤ m → number_at (firsts k) a ≡ number_of (cond (eqb a 0) None (rule_from p a k))
    first_entry k zero room = refl
    first_entry k (suc a) room =
        ap number_of (entry_of_table (λ b. number_of (rule_from p b k)) m (suc a) (omega arith) room)
        ∙ sym (ap number_of (cond-false (eqb (suc a) 0) None (rule_from p (suc a) k) (ne_eqb (suc a) 0 (λ z. omega arith))))

    -- rule k, whose head is a, is put before the rules above it
    module _ (lawful : Lawful p) (room : p.atoms ≤ m) (k a : ℕ) (some : 1 ≤ k) (within : k ≤ length p.rules) (is : head_at p k ≡ Some a) (first next : List ℕ) (firsts_are : first ≡ firsts (k + 1)) where
      abbrev here : k ≡ k - 1 + 1
      here = omega arith

      heads : (b : ℕ) → has_head p b k ≡ eqb a b
      heads b = ap (λ o. unwrap_or (option_map (λ h. eqb h b) o) false) is

      pub firsts_put : with_put first a k ≡ firsts (k - 1 + 1)
      firsts_put =
          ap (λ xs. with_put xs a k) firsts_are
          ∙ ap (with_put (firsts (k + 1)) a) (sym (ap number_of (lowest_from_here (has_head p a) (length p.rules) k within (heads a ∙ eq-eqb a a refl))))
          ∙ table_put (λ b. number_of (rule_from p b (k + 1))) (λ b. number_of (rule_from p b k)) m a
          (λ b _ apart. sym (ap number_of (lowest_from_more (has_head p b) (length p.rules) k within (heads b ∙ ne_eqb a b (λ e. apart (sym e))))))
          ∙ ap firsts here

      pub nexts_put : next ≡ nexts (k + 1) → with_put next k (number_at first a) ≡ nexts (k - 1 + 1)
      nexts_put nexts_are =
          let low = known p.atoms (rule_at p k) (of_rule_at (LawfulRule p.atoms) p k lawful.each_lawful) a is in
          let after : number_at first a ≡ number_of (rule_after k) = ap (λ xs. number_at xs a) firsts_are ∙ first_entry (k + 1) a (omega arith) ∙ sym (ap (λ o. number_of (after_head p k o)) is) in
          ap (λ xs. with_put xs k (number_at first a)) nexts_are ∙ ap (with_put (nexts (k + 1)) k) after ∙ changed_back (λ j. 0) (λ j. number_of (rule_after j)) n k ∙ ap nexts here
