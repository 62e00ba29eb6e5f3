-- What a repeated fact stands for. Assumes nothing.
use Rattle.std.specs.Prelude.{min, [], replicate}
use Rattle.rules.specs.Program.{Rule, Program}
use Rattle.source_cases.specs.declared.repeated.Repeated.{Repeated}

-- the rule with head 1 and an empty body
abbrev pub fact : Rule
fact = record { head = 1; positive = []; negative = [] }

-- 100 atoms, and the fact as many times, up to the limit
abbrev pub repeated : Repeated → Program
repeated s = record { atoms = 100; rules = replicate (min s.rules 16384) fact }
