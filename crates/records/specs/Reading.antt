-- What every reader of records answers for a head and for a record after it: each check in its order. Assumes nothing.
use Rattle.std.specs.Prelude.{ℕ, ◌+◌, cond, List, length, Some, None, Ok, Err, Option, Result, ◌==◌}
use Rattle.refusal.specs.declared.Reason.{Reason}
use Rattle.refusal.specs.declared.Reason.TheVariants.{Cut, Kind, Length, Trailing}
use Rattle.refusal.specs.declared.Layer.{Layer}
use Rattle.refusal.specs.declared.Refusal.{Refusal}
use Rattle.refusal.specs.Refused.{refused}
use Rattle.records.specs.Kinds.{kind_number}
use Rattle.records.specs.Words.{header_of, word_at}
use Rattle.records.specs.declared.Header.{Header}
use Rattle.records.specs.declared.kind.RecordKind.{RecordKind}

-- both numbers of a head are there
abbrev pub both_numbers : Option ℕ → Option ℕ → Result (ℕ × ℕ) Reason
both_numbers None second = Err Cut
both_numbers (Some first) None = Err Cut
both_numbers (Some first) (Some second) = Ok (first, second)

abbrev pub head_by_header : RecordKind → List ℕ → Option Header → Result (ℕ × ℕ) Reason
head_by_header kind bytes None = Err Cut
head_by_header kind bytes (Some h) = cond (h.kind == kind_number kind) (cond (h.length == 4) (both_numbers (word_at bytes 4) (word_at bytes 6)) (Err Length)) (Err Kind)

-- the two numbers in a head record of that kind
abbrev pub head_numbers : RecordKind → List ℕ → Result (ℕ × ℕ) Reason
head_numbers kind bytes = head_by_header kind bytes (header_of bytes)

abbrev pub opened_by_header : RecordKind → Option Header → Result (Option ℕ) Reason
opened_by_header kind None = Err Cut
opened_by_header kind (Some h) = cond (h.kind == kind_number kind) (Ok (Some h.length)) (cond (h.kind == 3) (cond (h.length == 0) (Ok None) (Err Length)) (Err Kind))

-- which record stands here: one of that kind, with its length, or the end's
abbrev pub record_opened : RecordKind → List ℕ → Result (Option ℕ) Reason
record_opened kind rest = opened_by_header kind (header_of rest)

-- a reason, as a layer answers it at a place
abbrev pub answered : {X : Type 0} → Layer → ℕ → Result X Reason → Result X Refusal
answered layer place (Ok x) = Ok x
answered layer place (Err why) = Err (refused layer why place)

-- the end's record, which begins at `place`, is all that is left
abbrev pub nothing_follows : Layer → List ℕ → ℕ → Result (Unit {0}) Refusal
nothing_follows layer rest place = cond (length rest == 4) (Ok tt) (Err (refused layer Trailing (place + 4)))
