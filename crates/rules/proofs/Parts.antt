-- The parts of a rule, as the questions walk over them. Assumes nothing.
use Rattle.std.proofs.Common.{◌≡◌, ℕ, zero, suc, ◌+◌, ◌-◌, ◌<◌, ◌≤◌, Bool, true, false, cond, eqb, List, [], ◌∷◌, length, get_or, drop, Some, None, Option, unwrap_or, sym, ap, ◌∙◌, arith}
use Rattle.std.specs.List.{slice_get, AllByRecursion}
use Rattle.std.specs.Option.{option_map}
use Rattle.std.proofs.ByRecursion.{All-from_get_or}
use Rattle.std.proofs.lemmas.List.{at_drop_all}
use Rattle.std.proofs.lemmas.Option.{slice_get-get_or}
use Rattle.std.proofs.lemmas.Bool.{cond-false, ne_eqb}
use Rattle.rules.specs.Tests.{any}
use Rattle.rules.proofs.Tests.{any_more, any_passes}
use Rattle.rules.specs.Program.{Rule, Program, Lawful, LawfulRule}
use Rattle.rules.specs.Questions.{rule_at, positive_part, negative_part}

-- what a list of rules has past its end
pub no_rule : Rule
no_rule = record { head = 0; positive = []; negative = [] }

-- what holds of each rule holds of one that is there
abbrev pub OfRule : (Rule → Type 0) → Option Rule → Type 0
OfRule P None = Unit {0}
OfRule P (Some r) = P r

module _ (P : Rule → Type 0) where
  of_nth : (rules : List Rule) (i : ℕ) → AllByRecursion P rules → OfRule P (slice_get rules i)
  of_nth [] i h = tt
  of_nth (r ∷ rules) zero h = h.0
  of_nth (r ∷ rules) (suc i) h = of_nth rules i h.1

  pub of_rule_at : (p : Program) (k : ℕ) → AllByRecursion P p.rules → OfRule P (rule_at p k)
  of_rule_at p k h = elim (eqb k 0) as (λ b. OfRule P (cond b None (slice_get p.rules (k - 1)))) [ true ↦ tt | false ↦ of_nth p.rules (k - 1) h ]

few : (n : ℕ) (r : Option Rule) → OfRule (LawfulRule n) r → length (unwrap_or (option_map (λ r. r.positive) r) []) + length (unwrap_or (option_map (λ r. r.negative) r) []) ≤ 255
few n None h = omega arith
few n (Some r) h = h.few_atoms

module _ (p : Program) (lawful : Lawful p) (k : ℕ) where
  pub few_in_parts : length (positive_part p k) + length (negative_part p k) ≤ 255
  few_in_parts = few p.atoms (rule_at p k) (of_rule_at (LawfulRule p.atoms) p k lawful.each_lawful)

-- the rules by their numbers
module _ (p : Program) where
  pub rule_at_nth : (k : ℕ) → 1 ≤ k → rule_at p k ≡ slice_get p.rules (k - 1)
  rule_at_nth k some = cond-false (eqb k 0) None (slice_get p.rules (k - 1)) (ne_eqb k 0 (λ z. omega arith))

  pub rule_at-get_or : (k : ℕ) → 1 ≤ k → k ≤ length p.rules → rule_at p k ≡ Some (get_or p.rules (k - 1) no_rule)
  rule_at-get_or k some within = rule_at_nth k some ∙ slice_get-get_or p.rules (k - 1) no_rule (omega arith)

-- what holds of each rule by its number
pub each_rule : (P : Rule → Type 0) (p : Program) → ((k : ℕ) (r : Rule) → rule_at p k ≡ Some r → 1 ≤ k → k ≤ length p.rules → P r) → AllByRecursion P p.rules
each_rule P p h =
    All-from_get_or P p.rules no_rule
    (λ i l. let place : i + 1 - 1 ≡ i = omega arith in
    h (i + 1) (get_or p.rules i no_rule) (rule_at-get_or p (i + 1) (omega arith) (omega arith) ∙ ap (λ j. Some (get_or p.rules j no_rule)) place) (omega arith) (omega arith))

module _ (p : Program) (k : ℕ) where
  -- rule k passes; an absent rule does not
  abbrev pub passes_at : (Rule → Bool) → Bool
  passes_at test = unwrap_or (option_map test (rule_at p k)) false

  -- some rule from k on passes
  abbrev pub any_rule_from : (Rule → Bool) → Bool
  any_rule_from test = any test (drop (k - 1) p.rules)

module _ (test : Rule → Bool) (p : Program) (k : ℕ) where
  pub any_rule_from_here : 1 ≤ k → k ≤ length p.rules → passes_at p k test ≡ true → any_rule_from p k test ≡ true
  any_rule_from_here some within t =
      any_passes test p.rules (k - 1) (get_or p.rules (k - 1) no_rule) (sym (rule_at_nth p k some) ∙ rule_at-get_or p k some within) (sym (ap (λ o. unwrap_or (option_map test o) false) (rule_at-get_or p k some within)) ∙ t)

  pub any_rule_from_more : 1 ≤ k → k ≤ length p.rules → passes_at p k test ≡ false → any_rule_from p k test ≡ any_rule_from p (k + 1) test
  any_rule_from_more some within t =
      let next : k - 1 + 1 ≡ k + 1 - 1 = omega arith in
      any_more test p.rules (k - 1) (get_or p.rules (k - 1) no_rule) (sym (rule_at_nth p k some) ∙ rule_at-get_or p k some within) (sym (ap (λ o. unwrap_or (option_map test o) false) (rule_at-get_or p k some within)) ∙ t) ∙ ap (λ i. any test (drop i p.rules)) next

  pub any_rule_from_all : length p.rules < k → any_rule_from p k test ≡ false
  any_rule_from_all past = at_drop_all (any test) p.rules (k - 1) (omega arith)
