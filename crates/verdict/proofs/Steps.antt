-- Steps of the search for an ungrounded atom. Assumes nothing.
use Rattle.std.proofs.Common.{◌≡◌, ℕ, Bool, true, false, not, ◌&&◌, List, [], ◌∷◌, length, is_some, Some, Option, sym, ap, ◌∙◌}
use Rattle.std.proofs.lemmas.Bool.{and_from, and_left, and_right}
use Rattle.levels.specs.Table.{level_of}
use Rattle.marks.specs.Marks.{marked}
use Rattle.rules.specs.Program.{Program}
use Rattle.rules.specs.Questions.{negative_part, positive_part}
use Rattle.rules.specs.Tests.{all, any, lowest}
use Rattle.support.proofs.Walk.{Walk, some_by_lowest, supporting, walk_parts}
use Rattle.verdict.specs.Judge.{both_below, grounded, lower, ungrounded}
use Rattle.verdict.proofs.Grounded.{under}

module _ {L : Type 0} (below : L → L → Bool) (entries : List (Option L)) (a b : ℕ) where
  -- the answer to a comparison of the two levels as the table gave them
  pub lower_read : (answer : Bool) (first second : Option L) → answer ≡ both_below below first second → first ≡ level_of entries b → second ≡ level_of entries a → lower below entries a b ≡ answer
  lower_read answer first second e x y = sym (e ∙ ap (λ o. both_below below o second) x ∙ ap (both_below below (level_of entries b)) y)

module _ {L : Type 0} (below : L → L → Bool) (p : Program) (marks : List ℕ) (entries : List (Option L)) (a : ℕ) where
  pub unmarked_passes : marked marks a ≡ false → ungrounded below p (marked marks) entries a ≡ false
  unmarked_passes out = and_left (marked marks a) (not (grounded below p (marked marks) entries a)) out

  pub grounded_passes : grounded below p (marked marks) entries a ≡ true → ungrounded below p (marked marks) entries a ≡ false
  grounded_passes ground = and_right (marked marks a) (not (grounded below p (marked marks) entries a)) (ap not ground)

  pub ungrounded_found : marked marks a ≡ true → grounded below p (marked marks) entries a ≡ false → ungrounded below p (marked marks) entries a ≡ true
  ungrounded_found into none = and_from (marked marks a) (not (grounded below p (marked marks) entries a)) into (ap not none)

  -- by the lowest rule that supports a with all its positive atoms' levels below a's own
  pub grounded_by_lowest : (found : Option ℕ) → lowest (supporting p (lower below entries a) (marked marks) a) (length p.rules) ≡ found → grounded below p (marked marks) entries a ≡ is_some found
  grounded_by_lowest found is = some_by_lowest p (lower below entries a) (marked marks) a ∙ ap is_some is

  -- the walk is at rule k, and a is in the set
  module _ (next : Option ℕ) (walk : Walk p (lower below entries a) (marked marks) a next) (k : ℕ) (at : next ≡ Some k) (into : marked marks a ≡ true) where
    -- whether the rule supports a by lower atoms, by its parts
    told : supporting p (lower below entries a) (marked marks) a k ≡ (not (any (marked marks) (negative_part p k)) && all (under below marks entries a) (positive_part p k))
    told = walk_parts p (lower below entries a) (marked marks) a next walk k at into

    pub not_by_negative : not (any (marked marks) (negative_part p k)) ≡ false → supporting p (lower below entries a) (marked marks) a k ≡ false
    not_by_negative fails = told ∙ and_left (not (any (marked marks) (negative_part p k))) (all (under below marks entries a) (positive_part p k)) fails

    -- what is left of its positive atoms tells as much as all of them
    module _ (left : List ℕ) (walked : all (under below marks entries a) left ≡ all (under below marks entries a) (positive_part p k)) where
      pub not_by_positive : (b : ℕ) (others : List ℕ) → left ≡ b ∷ others → under below marks entries a b ≡ false → supporting p (lower below entries a) (marked marks) a k ≡ false
      not_by_positive b others is fails =
          told ∙ and_right (not (any (marked marks) (negative_part p k))) (all (under below marks entries a) (positive_part p k)) (sym walked ∙ ap (all (under below marks entries a)) is ∙ and_left (under below marks entries a b) (all (under below marks entries a) others) fails)

      pub by_rule : left ≡ [] → not (any (marked marks) (negative_part p k)) ≡ true → supporting p (lower below entries a) (marked marks) a k ≡ true
      by_rule none holds = told ∙ and_from (not (any (marked marks) (negative_part p k))) (all (under below marks entries a) (positive_part p k)) holds (sym walked ∙ ap (all (under below marks entries a)) none)
