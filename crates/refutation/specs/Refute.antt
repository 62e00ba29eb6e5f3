-- What refute answers. Assumes nothing.
use Rattle.std.specs.Prelude.{◌≡◌, ℕ, Bool, false, cond, not, ◌&&◌, List, ◌++◌, length, is_some, Some, None, Ok, Err, codes, decimal, Option, Result, ◌==◌}
use Rattle.std.specs.Option.{option_map, unwrap_or}
use Rattle.refusal.specs.declared.Refusal.{Refusal}
use Rattle.rules.specs.Program.{Rule, Program}
use Rattle.rules.specs.Questions.{rule_at}
use Rattle.rules.specs.Stable.{Atoms, Stable, supports_with}
use Rattle.rules.specs.Tests.{lowest, tally}
use Rattle.marks.specs.Calls.{marks_checked}
use Rattle.marks.specs.Marks.{marked, doubted}
use Rattle.refutation.specs.declared.Escape.{Escape}
use Rattle.refutation.specs.declared.Refutation.{Refutation}
use Rattle.refutation.specs.declared.Refutation.TheVariants.{Undoubted, Escaped, Accepted}

-- the word of each answer
abbrev pub word_of : Refutation → List ℕ
word_of Undoubted = codes "undoubted"
word_of (Escaped e) = codes "escape"
word_of (Accepted m) = codes "accepted"

-- the number of each answer: none, an atom, how many atoms
abbrev pub number_of : Refutation → ℕ
number_of Undoubted = 0
number_of (Escaped e) = e.atom
number_of (Accepted m) = m

-- what is printed of an answer: its word and its number, and for an escape the rule
abbrev pub text_of : Refutation → List ℕ
text_of Undoubted = codes "undoubted 0"
text_of (Escaped e) = codes "escape " ++ (decimal e.atom ++ (codes " " ++ decimal e.rule))
text_of (Accepted m) = codes "accepted " ++ decimal m

-- the rule supports the atom a without a doubted positive atom
abbrev pub frees : Atoms → Atoms → ℕ → Rule → Bool
frees set doubt a r = supports_with (λ b. not (doubt b)) set a r

-- rule k is there, and supports the atom a without a doubted positive atom
abbrev pub frees_at : Program → Atoms → Atoms → ℕ → ℕ → Bool
frees_at p set doubt a k = unwrap_or (option_map (frees set doubt a) (rule_at p k)) false

-- the lowest rule that supports the atom a without a doubted positive atom
abbrev pub freeing_rule : Program → Atoms → Atoms → ℕ → Option ℕ
freeing_rule p set doubt a = lowest (frees_at p set doubt a) (length p.rules)

-- a is doubted, and some rule supports it without a doubted positive atom
abbrev pub escapes : Program → Atoms → Atoms → ℕ → Bool
escapes p set doubt a = doubt a && is_some (freeing_rule p set doubt a)

-- an atom that escapes, and the lowest rule by which it does
abbrev pub escape_of : Program → Atoms → Atoms → Option ℕ → Option Escape
escape_of p set doubt None = None
escape_of p set doubt (Some a) = Some (record { atom = a; rule = unwrap_or (freeing_rule p set doubt a) 0 })

-- the lowest doubted atom that escapes
abbrev pub lowest_escape : Program → Atoms → Atoms → Option Escape
lowest_escape p set doubt = escape_of p set doubt (lowest (escapes p set doubt) p.atoms)

-- where some atom is doubted
abbrev pub by_escape : Program → Atoms → Option Escape → Refutation
by_escape p doubt (Some e) = Escaped e
by_escape p doubt None = Accepted (tally doubt p.atoms)

-- the first that applies: no atom is doubted, a doubted atom escapes, acceptance
abbrev pub refutation : Program → Atoms → Atoms → Refutation
refutation p set doubt = cond (tally doubt p.atoms == 0) Undoubted (by_escape p doubt (lowest_escape p set doubt))

-- where the marks may be refused
abbrev pub unless_refused : Result (Unit {0}) Refusal → Refutation → Result Refutation Refusal
unless_refused (Ok u) answer = Ok answer
unless_refused (Err e) answer = Err e

-- what refute answers: the marks are checked first
abbrev pub refuted : Program → List ℕ → Result Refutation Refusal
refuted p marks = unless_refused (marks_checked p.atoms marks) (refutation p (marked marks) (doubted marks))

-- what refute accepts is no stable set
abbrev pub AcceptsNoStable : Program → Atoms → Result Refutation Refusal → Type 0
AcceptsNoStable p set r = (m : ℕ) → r ≡ Ok (Accepted m) → Stable p set → ⊥
