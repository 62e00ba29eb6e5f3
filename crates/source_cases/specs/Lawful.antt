-- Proofs: what a repeated fact stands for is lawful. Assumes nothing.
use Rattle.std.specs.Prelude.{ℕ, zero, suc, min, replicate, refl}
use Rattle.std.proofs.Common.{arith}
use Rattle.std.proofs.lemmas.List.{length-replicate}
use Rattle.std.specs.List.{AllByRecursion}
use Rattle.rules.specs.Program.{Lawful, LawfulRule}
use Rattle.source_cases.specs.Repeated.{fact, repeated}
use Rattle.source_cases.specs.declared.repeated.Repeated.{Repeated}

fact_lawful : LawfulRule 100 fact
fact_lawful =
    record {
      head_known = omega arith;
      positive_known = refl;
      negative_known = refl;
      positive_ascends = refl;
      negative_ascends = refl;
      parts_disjoint = refl;
      few_atoms = omega arith;
    }

each_lawful : (many : ℕ) → AllByRecursion (LawfulRule 100) (replicate many fact)
each_lawful zero = tt
each_lawful (suc many) = (fact_lawful, each_lawful many)

pub repeated_lawful : (s : Repeated) → Lawful (repeated s)
repeated_lawful s =
    record {
      atoms_bound = omega arith;
      rules_bound = omega (arith, length-replicate (min s.rules 16384) fact);
      each_lawful = each_lawful (min s.rules 16384);
    }
