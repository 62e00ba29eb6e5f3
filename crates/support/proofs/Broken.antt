-- Where no rule is broken. Assumes nothing.
use Rattle.std.proofs.Common.{◌≡◌, false, length, Some, None, Option, refl, sym, ap, ◌∙◌}
use Rattle.std.specs.List.{AllByRecursion}
use Rattle.rules.specs.Program.{Rule, Program}
use Rattle.rules.specs.Questions.{rule_at}
use Rattle.rules.specs.Stable.{Atoms, broken}
use Rattle.rules.specs.Tests.{any}
use Rattle.rules.proofs.Parts.{OfRule, each_rule, of_rule_at}
use Rattle.rules.proofs.Tests.{each_from_none, lowest_none, none_from_lowest}
use Rattle.support.specs.Rules.{is_broken, lowest_broken}

-- no rule is broken, said of each rule
pub none_broken : (p : Program) (set : Atoms) → lowest_broken p set ≡ None → AllByRecursion (λ r. broken set r ≡ false) p.rules
none_broken p set e =
    each_rule (λ r. broken set r ≡ false) p
    (λ k r at some within. sym (ap (is_broken set) at) ∙ none_from_lowest (λ k. is_broken set (rule_at p k)) (length p.rules) e k some within)

module _ (p : Program) (set : Atoms) where
  unbroken_there : (r : Option Rule) → OfRule (λ r. broken set r ≡ false) r → is_broken set r ≡ false
  unbroken_there None h = refl
  unbroken_there (Some r) h = h

  pub unbroken_lowest : any (broken set) p.rules ≡ false → lowest_broken p set ≡ None
  unbroken_lowest whole = lowest_none (λ k. is_broken set (rule_at p k)) (length p.rules) (λ k low high. unbroken_there (rule_at p k) (of_rule_at (λ r. broken set r ≡ false) p k (each_from_none (broken set) p.rules whole)))
