-- Proofs: the program of the pair is lawful. Assumes nothing.
use Rattle.std.specs.Prelude.{refl}
use Rattle.std.proofs.Common.{arith}
use Rattle.rules.specs.Program.{Lawful, LawfulRule}
use Rattle.checklist.specs.Pair.{pair, rests_on}

first_lawful : LawfulRule 2 (rests_on 1 2)
first_lawful = record {
  head_known = omega arith;
  positive_known = refl;
  negative_known = refl;
  positive_ascends = refl;
  negative_ascends = refl;
  parts_disjoint = refl;
  few_atoms = omega arith;
}

second_lawful : LawfulRule 2 (rests_on 2 1)
second_lawful = record {
  head_known = omega arith;
  positive_known = refl;
  negative_known = refl;
  positive_ascends = refl;
  negative_ascends = refl;
  parts_disjoint = refl;
  few_atoms = omega arith;
}

pub pair_lawful : Lawful pair
pair_lawful = record {
  atoms_bound = omega arith;
  rules_bound = omega arith;
  each_lawful = (first_lawful, (second_lawful, tt));
}
