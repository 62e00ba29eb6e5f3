-- The two parts of a rule, and what is left of one that is walked. Assumes nothing.
use Rattle.std.specs.Prelude.{ℕ, List, drop}
use Rattle.rules.specs.Program.{Program}
use Rattle.rules.specs.Questions.{positive_part, negative_part}
use Rattle.rules.specs.declared.part.Part.{Part}
use Rattle.rules.specs.declared.part.Part.TheVariants.{Positive, Negative}
use Rattle.rules.specs.declared.part.PartAtoms.{PartAtoms}

-- the atoms of a part of a rule; those of an absent rule are none
abbrev pub part_of : Program → ℕ → Part → List ℕ
part_of p k Positive = positive_part p k
part_of p k Negative = negative_part p k

-- the atoms from the position on, in a source that stands for a program
abbrev pub atoms_left : {S : Type 0} → (S → Program) → PartAtoms S → List ℕ
atoms_left meaning s = drop s.position (part_of (meaning s.source.now) s.rule s.part)
