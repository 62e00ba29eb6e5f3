-- What the questions answer of a program with inputs: first its own rules, then the facts. Assumes nothing.
use Rattle.std.proofs.Common.{◌≡◌, ℕ, zero, suc, ◌+◌, ◌-◌, ◌<◌, ◌≤◌, min, ◌||◌, eqb, ltb, leb, List, [], ◌∷◌, ◌++◌, map, length, take, Some, None, filter, Option, sym, refl, ap, ◌∙◌, ⊎_elim, arith, length-append, length-take}
use lib.ListN.{length-map}
use Rattle.std.specs.List.{slice_get}
use Rattle.std.specs.Option.{option_map, MatchOption}
use Rattle.std.proofs.iter.runs.Lists.{nth_left, nth_right, slice_get-map}
use Rattle.std.proofs.lemmas.Option.{slice_get_past}
use Rattle.std.proofs.lemmas.Bool.{cases_lt, cond-true, cond-false, or_left, or_right, or_from, le-leb, lt-leb, lt-ltb, le-ltb, eq-eqb}
use Rattle.rules.specs.Program.{Rule, Program, Lawful, within}
use Rattle.rules.specs.Questions.{rule_at, head_at, in_part, positive_at, negative_at}
use Rattle.rules.proofs.Parts.{rule_at_nth}
use Rattle.rules.proofs.Tests.{some_not_none}
use Rattle.inputs.specs.Layer.{fact, facts, fact_at, with_inputs}

nth_take : {X : Type 0} (n : ℕ) (xs : List X) (i : ℕ) → i < n → slice_get (take n xs) i ≡ slice_get xs i
nth_take zero xs i within = absurd (omega arith)
nth_take (suc n) [] i within = refl
nth_take (suc n) (x ∷ xs) zero within = refl
nth_take (suc n) (x ∷ xs) (suc i) within = nth_take n xs i (omega arith)

-- rules by their numbers
module _ (p : Program) (k : ℕ) where
  rule_at_zero : k ≡ 0 → rule_at p k ≡ None
  rule_at_zero none = cond-true (eqb k 0) None (slice_get p.rules (k - 1)) (eq-eqb k 0 none)

  rule_at_past : length p.rules < k → rule_at p k ≡ None
  rule_at_past past = rule_at_nth p k (omega arith) ∙ slice_get_past p.rules (k - 1) (omega arith)

-- a fact has its input for a head, and no body
head_of_fact : (a : Option ℕ) → option_map (λ r. r.head) (option_map fact a) ≡ a
head_of_fact None = refl
head_of_fact (Some a) = refl

no_positive_part : (a : Option ℕ) (i : ℕ) → in_part (option_map (λ r. r.positive) (option_map fact a)) i ≡ None
no_positive_part None i = refl
no_positive_part (Some a) i = refl

no_negative_part : (a : Option ℕ) (i : ℕ) → in_part (option_map (λ r. r.negative) (option_map fact a)) i ≡ None
no_negative_part None i = refl
no_negative_part (Some a) i = refl

pub length-with_inputs : (p : Program) (inputs : List ℕ) → length (with_inputs p inputs).rules ≡ min 16384 (length p.rules + length (filter (within p.atoms) inputs))
length-with_inputs p inputs =
    let atoms = filter (within p.atoms) inputs in
    length-take 16384 (p.rules ++ map fact atoms) ∙ ap (min 16384) (length-append p.rules (map fact atoms) ∙ ap (λ m. length p.rules + m) (length-map atoms fact))

module _ (p : Program) (inputs : List ℕ) (lawful : Lawful p) (k : ℕ) where
  rule_stays : k ≤ length p.rules → rule_at (with_inputs p inputs) k ≡ rule_at p k
  rule_stays there =
      let q = with_inputs p inputs in
      ⊎_elim
      (λ (some : 0 < k). rule_at_nth q k some
      ∙ nth_take 16384 (p.rules ++ facts p.atoms inputs) (k - 1) (omega (arith, lawful.rules_bound))
      ∙ nth_left p.rules (facts p.atoms inputs) (k - 1) (omega arith)
      ∙ sym (rule_at_nth p k some))
      (λ (none : k ≤ 0). rule_at_zero q k (omega arith) ∙ sym (rule_at_zero p k (omega arith)))
      (cases_lt 0 k)

  no_fact : k ≤ length p.rules → fact_at p inputs k ≡ None
  no_fact there =
      cond-true (leb k (length p.rules) || ltb 16384 k) None (slice_get (filter (within p.atoms) inputs) (k - length p.rules - 1))
      (or_left (leb k (length p.rules)) (ltb 16384 k) (le-leb k (length p.rules) there))

  rule_is_fact : length p.rules < k → rule_at (with_inputs p inputs) k ≡ option_map fact (fact_at p inputs k)
  rule_is_fact past =
      let q = with_inputs p inputs in
      let n = length p.rules in
      let atoms = filter (within p.atoms) inputs in
      let place : k - 1 ≡ n + (k - n - 1) = omega arith in
      ⊎_elim
      (λ (far : 16384 < k). rule_at_past q k (omega (arith, length-with_inputs p inputs))
      ∙ ap (option_map fact) (sym (cond-true (leb k n || ltb 16384 k) None (slice_get atoms (k - n - 1)) (or_right (leb k n) (ltb 16384 k) (lt-ltb 16384 k far)))))
      (λ (near : k ≤ 16384). rule_at_nth q k (omega arith)
      ∙ nth_take 16384 (p.rules ++ map fact atoms) (k - 1) (omega arith)
      ∙ ap (slice_get (p.rules ++ map fact atoms)) place
      ∙ nth_right p.rules (map fact atoms) (k - n - 1)
      ∙ slice_get-map fact atoms (k - n - 1)
      ∙ ap (option_map fact) (sym (cond-false (leb k n || ltb 16384 k) None (slice_get atoms (k - n - 1)) (or_from (leb k n) (ltb 16384 k) (lt-leb k n past) (le-ltb 16384 k near)))))
      (cases_lt 16384 k)

  pub head_of_rule : (h : ℕ) → Some h ≡ head_at p k → Some h ≡ head_at (with_inputs p inputs) k
  head_of_rule h is =
      ⊎_elim
      (λ past. absurd (some_not_none (is ∙ ap (option_map (λ r. r.head)) (rule_at_past p k past))))
      (λ there. is ∙ sym (ap (option_map (λ r. r.head)) (rule_stays there)))
      (cases_lt (length p.rules) k)

  -- where there is no rule below, the answer is that of the facts
  pub head_of_absent : None ≡ head_at p k → fact_at p inputs k ≡ head_at (with_inputs p inputs) k
  head_of_absent is =
      ⊎_elim
      (λ past. sym (ap (option_map (λ r. r.head)) (rule_is_fact past) ∙ head_of_fact (fact_at p inputs k)))
      (λ there. no_fact there ∙ is ∙ sym (ap (option_map (λ r. r.head)) (rule_stays there)))
      (cases_lt (length p.rules) k)

  -- the answer of the rules below, or that of the facts
  pub head_of_source : {P : Type 0} (below answer : Option ℕ) → below ≡ head_at p k → (P → answer ≡ fact_at p inputs k) → MatchOption below P (λ h. answer ≡ Some h) → answer ≡ head_at (with_inputs p inputs) k
  head_of_source None answer is otherwise found = otherwise found ∙ head_of_absent is
  head_of_source (Some h) answer is otherwise found = found ∙ head_of_rule h is

  pub positive_part_stays : (i : ℕ) → positive_at p k i ≡ positive_at (with_inputs p inputs) k i
  positive_part_stays i =
      let part : Option Rule → Option ℕ = λ r. in_part (option_map (λ r. r.positive) r) i in
      ⊎_elim
      (λ past. ap part (rule_at_past p k past) ∙ sym (ap part (rule_is_fact past) ∙ no_positive_part (fact_at p inputs k) i))
      (λ there. sym (ap part (rule_stays there)))
      (cases_lt (length p.rules) k)

  pub negative_part_stays : (i : ℕ) → negative_at p k i ≡ negative_at (with_inputs p inputs) k i
  negative_part_stays i =
      let part : Option Rule → Option ℕ = λ r. in_part (option_map (λ r. r.negative) r) i in
      ⊎_elim
      (λ past. ap part (rule_at_past p k past) ∙ sym (ap part (rule_is_fact past) ∙ no_negative_part (fact_at p inputs k) i))
      (λ there. sym (ap part (rule_stays there)))
      (cases_lt (length p.rules) k)
