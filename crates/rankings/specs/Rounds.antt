-- Rounds: in which order the atoms of a set are taken, each by a rule whose positive atoms were taken before. Assumes nothing.
use Rattle.std.specs.Prelude.{ℕ, zero, suc, Bool, false, not, ◌&&◌, is_some, unwrap_or, ◌==◌}
use Rattle.rules.specs.Program.{Program}
use Rattle.rules.specs.Stable.{Atoms, supports_with}
use Rattle.rules.specs.Tests.{any, lowest, tally}

-- one of the rounds 1 to k takes the atom: it is in the set, and a rule supports it with all positive atoms taken in earlier rounds
abbrev pub taken : Program → Atoms → ℕ → Atoms
taken p set zero a = false
taken p set (suc k) a = any (supports_with (taken p set k) set a) p.rules

-- the round that takes the atom, where one of the first `last` does; 0 where none of them does
abbrev pub round_upto : Program → Atoms → ℕ → ℕ → ℕ
round_upto p set last a = unwrap_or (lowest (λ k. taken p set k a) last) 0

-- the round that takes the atom; 0 where no round does. As many rounds as there are atoms are enough
abbrev pub round_of : Program → Atoms → ℕ → ℕ
round_of p set a = round_upto p set p.atoms a

-- the round takes some atom
abbrev pub takes_some : Program → Atoms → ℕ → Bool
takes_some p set k = is_some (lowest (λ a. round_of p set a == k) p.atoms)

-- how many rounds take an atom
abbrev pub rounds_needed : Program → Atoms → ℕ
rounds_needed p set = tally (takes_some p set) p.atoms

-- the atom is in the set, and no round takes it
abbrev pub left_over : Program → Atoms → ℕ → Bool
left_over p set a = set a && not (taken p set p.atoms a)

-- how many atoms of the set no round takes
abbrev pub left_count : Program → Atoms → ℕ
left_count p set = tally (left_over p set) p.atoms
