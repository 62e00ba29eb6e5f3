-- The rules of each atom, as a chain: where it begins, and which rule comes after each. Assumes nothing.
use Rattle.std.specs.Prelude.{ℕ, ◌+◌, ◌-◌, Bool, false, cond, length, List, replicate, Some, None, Option, ◌==◌}
use Rattle.std.specs.Option.{option_map, unwrap_or}
use Rattle.rules.specs.Program.{Program}
use Rattle.rules.specs.Questions.{head_at}
use Rattle.rules.specs.Tests.{first_from}
use Rattle.tables.specs.Entries.{entry_of, table_of}
use Rattle.support.specs.declared.heads.RulesByHead.{RulesByHead}

-- rule k is there, and its head is a
abbrev pub has_head : Program → ℕ → ℕ → Bool
has_head p a k = unwrap_or (option_map (λ h. h == a) (head_at p k)) false

-- the lowest rule from k on whose head is a
abbrev pub rule_from : Program → ℕ → ℕ → Option ℕ
rule_from p a k = first_from (has_head p a) k (length p.rules + 1 - k)

-- the lowest rule after rule k whose head is that of rule k, where that is an atom
abbrev pub after_head : Program → ℕ → Option ℕ → Option ℕ
after_head p k None = None
after_head p k (Some a) = cond (a == 0) None (rule_from p a (k + 1))

-- the number of a rule, and 0 for none
abbrev pub number_of : Option ℕ → ℕ
number_of rule = unwrap_or rule 0

-- the chain of each atom: its first rule, and after each rule the next one with the same head
abbrev pub by_head : Program → RulesByHead
by_head p = record { first = table_of (λ a. number_of (rule_from p a 1)) 4096; next = table_of (λ k. number_of (after_head p k (head_at p k))) 16384 }

-- no atom and no rule has a chain
abbrev pub no_rules : RulesByHead
no_rules = record { first = replicate 4096 0; next = replicate 16384 0 }

-- the number that stands at a place of a table, and 0 past its ends
abbrev pub number_at : List ℕ → ℕ → ℕ
number_at entries a = number_of (entry_of entries a)

-- the rule that has a number, none for 0
abbrev pub numbered : ℕ → Option ℕ
numbered k = cond (k == 0) None (Some k)

-- where the chain of the atom a begins, as the entries say
abbrev pub first_in : RulesByHead → ℕ → Option ℕ
first_in heads a = numbered (number_at heads.first a)

-- which rule comes after rule k, as the entries say
abbrev pub next_in : RulesByHead → ℕ → Option ℕ
next_in heads k = numbered (number_at heads.next k)
