-- The line that is printed for an answer. Assumes nothing.
use Rattle.std.specs.Prelude.{ℕ, List, ◌++◌, Ok, Err, codes, Result}
use Rattle.refusal.specs.Refused.{refusal_text}
use Rattle.refusal.specs.declared.Refusal.{Refusal}
use Rattle.verdict.specs.Judge.{text_of}
use Rattle.verdict.specs.declared.Verdict.{Verdict}

-- a verdict: its word and its number; a refusal: `refused`, its letter, its number and its place
abbrev pub line_of : Result Verdict Refusal → List ℕ
line_of (Ok v) = text_of v ++ codes "\n"
line_of (Err e) = refusal_text e ++ codes "\n"
