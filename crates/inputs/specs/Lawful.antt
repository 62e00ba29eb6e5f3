-- Proofs: a lawful program with inputs is lawful. Assumes nothing.
use Rattle.std.specs.Prelude.{◌≡◌, ℕ, Bool, true, false, cond, List, [], ◌∷◌, ◌++◌, map, filter, nat_le, refl}
use Rattle.std.proofs.Common.{arith, length-take}
use Rattle.std.specs.List.{AllByRecursion}
use Rattle.std.proofs.ByRecursion.{All-take, All-append}
use Rattle.std.proofs.lemmas.Bool.{leb-true, and_parts}
use Rattle.rules.specs.Program.{Program, Lawful, LawfulRule, within}
use Rattle.inputs.specs.Layer.{fact, facts, with_inputs}

module _ (n : ℕ) where
  fact_lawful : (a : ℕ) → within n a ≡ true → LawfulRule n (fact a)
  fact_lawful a is =
      record {
        head_known = leb-true a n (and_parts (nat_le 1 a) (nat_le a n) is).1;
        positive_known = refl;
        negative_known = refl;
        positive_ascends = refl;
        negative_ascends = refl;
        parts_disjoint = refl;
        few_atoms = omega arith;
      }

  one_more : (a : ℕ) (inputs : List ℕ) → AllByRecursion (LawfulRule n) (facts n inputs) → (b : Bool) → within n a ≡ b → AllByRecursion (LawfulRule n) (map fact (cond b (a ∷ filter (within n) inputs) (filter (within n) inputs)))
  one_more a inputs more true is = (fact_lawful a is, more)
  one_more a inputs more false is = more

  facts_lawful : (inputs : List ℕ) → AllByRecursion (LawfulRule n) (facts n inputs)
  facts_lawful [] = tt
  facts_lawful (a ∷ inputs) = one_more a inputs (facts_lawful inputs) (within n a) refl

pub with_inputs_lawful : (p : Program) (inputs : List ℕ) → Lawful p → Lawful (with_inputs p inputs)
with_inputs_lawful p inputs lawful =
    record {
      atoms_bound = lawful.atoms_bound;
      rules_bound = simp length-take (omega arith);
      each_lawful = All-take (LawfulRule p.atoms) 16384 (p.rules ++ facts p.atoms inputs) (All-append (LawfulRule p.atoms) p.rules (facts p.atoms inputs) lawful.each_lawful (facts_lawful p.atoms inputs));
    }
