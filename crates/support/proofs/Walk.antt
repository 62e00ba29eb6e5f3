-- A walk over the chain of an atom: what it has left gives the lowest rule that supports the atom with a test on its positive atoms. Assumes nothing.
use Rattle.std.proofs.Common.{◌≡◌, ℕ, zero, suc, ◌+◌, ◌-◌, ◌<◌, ◌≤◌, Bool, true, false, not, ◌&&◌, eqb, length, is_some, Some, None, Option, option_map, unwrap_or, sym, refl, ap, ◌∙◌, subst, ⊎_elim, arith}
use Rattle.std.proofs.lemmas.Bool.{and_parts, both_ways, cases_lt, cond-false, cond_both, eqb-true, false_from_ne_true, ne_eqb}
use Rattle.rules.specs.Program.{Lawful, Program, Rule}
use Rattle.rules.specs.Questions.{head_at, negative_part, positive_part, rule_at}
use Rattle.rules.specs.Stable.{Atoms, supports_with}
use Rattle.rules.specs.Tests.{all, any, first_from, lowest}
use Rattle.rules.proofs.Parts.{any_rule_from, any_rule_from_all, any_rule_from_here, any_rule_from_more, passes_at}
use Rattle.rules.proofs.Tests.{lowest_from, lowest_from_here, lowest_from_more}
use Rattle.tables.proofs.Entries.{entry_of_table}
use Rattle.support.specs.Chains.{after_head, by_head, first_in, has_head, next_in, number_of, numbered, rule_from}
use Rattle.support.specs.declared.heads.RulesByHead.{RulesByHead}
use Rattle.support.proofs.Chains.{first_entry, found_numbered, rule_after, rule_past}
use Rattle.support.proofs.Support.{supports_with_own}

-- a rule that has the head a by a test has it
head_from : (a : ℕ) (head : Option ℕ) → unwrap_or (option_map (λ h. eqb h a) head) false ≡ true → head ≡ Some a
head_from a None e = absurd (both_ways false refl e)
head_from a (Some h) e = ap Some (eqb-true h a e)

-- a rule that supports the atom a has it for its head
own_head : (test : ℕ → Bool) (set : Atoms) (a : ℕ) (r : Option Rule) → unwrap_or (option_map (supports_with test set a) r) false ≡ true → unwrap_or (option_map (λ h. eqb h a) (option_map (λ r. r.head) r)) false ≡ true
own_head test set a None e = e
own_head test set a (Some r) e = (and_parts (eqb r.head a) _ e).0

module _ (p : Program) (a : ℕ) where
  -- the rule, where there is one, is of the chain
  abbrev pub InChain : Option ℕ → Type 0
  InChain None = Unit {0}
  InChain (Some k) = has_head p a k ≡ true

  -- how many rules there are from this one of the chain on
  abbrev pub rules_left : Option ℕ → ℕ
  rules_left None = 0
  rules_left (Some k) = length p.rules + 1 - k

  -- what is found from a rule on is of the chain, and no further back
  in_chain : (from many : ℕ) → InChain (first_from (has_head p a) from many)
  in_chain from zero = tt
  in_chain from (suc many) = cond_both (has_head p a from) (Some from) (first_from (has_head p a) (from + 1) many) InChain (λ t. t) (λ f. in_chain (from + 1) many)

  few_left : (from many : ℕ) → rules_left (first_from (has_head p a) from many) ≤ length p.rules + 1 - from
  few_left from zero = omega arith
  few_left from (suc many) = cond_both (has_head p a from) (Some from) (first_from (has_head p a) (from + 1) many) (λ o. rules_left o ≤ length p.rules + 1 - from) (λ t. omega arith) (λ f. omega (arith, few_left (from + 1) many))

  -- a rule of the chain is there
  chain_within : (k : ℕ) → has_head p a k ≡ true → (1 ≤ k) × (k ≤ length p.rules)
  chain_within zero own = absurd (both_ways false refl own)
  chain_within (suc k) own =
      ⊎_elim
      (λ past. absurd (both_ways (has_head p a (suc k)) (ap (λ r. unwrap_or (option_map (λ h. eqb h a) (option_map (λ r. r.head) r)) false) (rule_past p (suc k) past)) own))
      (λ within. (omega arith, within))
      (cases_lt (length p.rules) (suc k))

  -- what the index of a lawful program says of its atom a
  module _ (lawful : Lawful p) (heads : RulesByHead) (is : heads ≡ by_head p) (some : 1 ≤ a) where
    first_is : a ≤ p.atoms → first_in heads a ≡ rule_from p a 1
    first_is within =
        ap (λ h. first_in h a) is
        ∙ ap numbered (first_entry p 4096 16384 1 a (omega (arith, lawful.atoms_bound)))
        ∙ ap (λ o. numbered (number_of o)) (cond-false (eqb a 0) None (rule_from p a 1) (ne_eqb a 0 (λ z. omega arith)))
        ∙ found_numbered (has_head p a) 1 (length p.rules + 1 - 1) (omega arith)

    next_is : (k : ℕ) → has_head p a k ≡ true → next_in heads k ≡ rule_from p a (k + 1)
    next_is k own =
        let place = chain_within k own in
        ap (λ h. next_in h k) is
        ∙ ap (λ o. numbered (number_of o)) (entry_of_table (λ j. number_of (rule_after p j)) 16384 k place.0 (omega (arith, place.1, lawful.rules_bound)))
        ∙ ap (λ o. numbered (number_of (after_head p k o))) (head_from a (head_at p k) own)
        ∙ ap (λ o. numbered (number_of o)) (cond-false (eqb a 0) None (rule_from p a (k + 1)) (ne_eqb a 0 (λ z. omega arith)))
        ∙ found_numbered (has_head p a) (k + 1) (length p.rules + 1 - (k + 1)) (omega arith)

    -- the next rule of the chain is further on
    shortens : (k : ℕ) → has_head p a k ≡ true → rules_left (next_in heads k) < rules_left (Some k)
    shortens k own =
        let place = chain_within k own in
        let shorter : rules_left (next_in heads k) ≡ rules_left (rule_from p a (k + 1)) = ap rules_left (next_is k own) in
        omega (arith, place.1, shorter, few_left (k + 1) (length p.rules + 1 - (k + 1)))

module _ (p : Program) (test : ℕ → Bool) (set : Atoms) (a : ℕ) where
  -- rule k supports the atom with the test
  abbrev pub supporting : ℕ → Bool
  supporting k = passes_at p k (supports_with test set a)

  -- the lowest rule that does, of this one and those above it
  abbrev pub lowest_left : Option ℕ → Option ℕ
  lowest_left None = None
  lowest_left (Some k) = lowest_from supporting (length p.rules) k

  -- between the rules of the chain none does
  skips : (from many : ℕ) → from + many ≡ length p.rules + 1 → first_from supporting from many ≡ lowest_left (first_from (has_head p a) from many)
  skips from zero size = refl
  skips from (suc many) size =
      cond_both (has_head p a from) (Some from) (first_from (has_head p a) (from + 1) many) (λ o. first_from supporting from (suc many) ≡ lowest_left o)
      (λ own. let more : suc many ≡ length p.rules + 1 - from = omega (arith, size) in ap (first_from supporting from) more)
      (λ other. cond-false (supporting from) (Some from) (first_from supporting (from + 1) many) (false_from_ne_true (supporting from) (λ t. both_ways (has_head p a from) other (own_head test set a (rule_at p from) t)))
      ∙ skips (from + 1) many (omega (arith, size)))

  -- whether some rule does, by the lowest
  some_from : (from many : ℕ) → 1 ≤ from → from + many ≡ length p.rules + 1 → any_rule_from p from (supports_with test set a) ≡ is_some (first_from supporting from many)
  some_from from zero low size = any_rule_from_all (supports_with test set a) p from (omega (arith, size))
  some_from from (suc many) low size =
      cond_both (supporting from) (Some from) (first_from supporting (from + 1) many) (λ o. any_rule_from p from (supports_with test set a) ≡ is_some o)
      (λ t. any_rule_from_here (supports_with test set a) p from low (omega (arith, size)) t)
      (λ f. any_rule_from_more (supports_with test set a) p from low (omega (arith, size)) f ∙ some_from (from + 1) many (omega arith) (omega (arith, size)))

  pub some_by_lowest : any (supports_with test set a) p.rules ≡ is_some (lowest supporting (length p.rules))
  some_by_lowest = some_from 1 (length p.rules) (omega arith) (omega arith)

  -- a walk that is at this rule of the chain, or at its end
  pub record Walk (next : Option ℕ) : Type 0 where
    pub left : lowest_left next ≡ lowest supporting (length p.rules)
    pub chain : InChain p a next

  pub walk_begins : (heads : RulesByHead) (next : Option ℕ) → Lawful p → heads ≡ by_head p → 1 ≤ a → a ≤ p.atoms → next ≡ first_in heads a → Walk next
  walk_begins heads next lawful is some within begins =
      let first = begins ∙ first_is p a lawful heads is some within in
      let all : length p.rules + 1 - 1 ≡ length p.rules = omega arith in
      record {
        left = ap lowest_left first ∙ sym (skips 1 (length p.rules + 1 - 1) (omega arith)) ∙ ap (first_from supporting 1) all;
        chain = subst (InChain p a) (sym first) (in_chain p a 1 (length p.rules + 1 - 1));
      }

  module _ (next : Option ℕ) (walk : Walk next) where
    pub walk_ends : next ≡ None → lowest supporting (length p.rules) ≡ None
    walk_ends is = sym walk.left ∙ ap lowest_left is

    module _ (k : ℕ) (at : next ≡ Some k) where
      own : has_head p a k ≡ true
      own = subst (InChain p a) at walk.chain

      left_here : lowest_from supporting (length p.rules) k ≡ lowest supporting (length p.rules)
      left_here = sym (ap lowest_left at) ∙ walk.left

      -- the parts of the rule tell whether it supports an atom of the set
      pub walk_parts : set a ≡ true → supporting k ≡ (not (any set (negative_part p k)) && all (λ b. set b && test b) (positive_part p k))
      walk_parts into = supports_with_own test set a p k own into

      pub walk_finds : supporting k ≡ true → lowest supporting (length p.rules) ≡ Some k
      walk_finds passes = sym left_here ∙ lowest_from_here supporting (length p.rules) k (chain_within p a k own).1 passes

      module _ (heads : RulesByHead) (after : Option ℕ) (lawful : Lawful p) (is : heads ≡ by_head p) (some : 1 ≤ a) (follows : after ≡ next_in heads k) where
        pub walk_goes_on : supporting k ≡ false → Walk after
        walk_goes_on fails =
            let place = chain_within p a k own in
            let then = follows ∙ next_is p a lawful heads is some k own in
            record {
              left = ap lowest_left then ∙ sym (skips (k + 1) (length p.rules + 1 - (k + 1)) (omega (arith, place.1))) ∙ sym (lowest_from_more supporting (length p.rules) k place.1 fails) ∙ left_here;
              chain = subst (InChain p a) (sym then) (in_chain p a (k + 1) (length p.rules + 1 - (k + 1)));
            }

        pub walk_shortens : rules_left p a after < rules_left p a next
        walk_shortens = rw (follows, at) (shortens p a lawful heads is some k own)
