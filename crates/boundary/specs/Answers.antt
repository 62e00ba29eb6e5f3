-- How answers cross to C: as a word and numbers. Assumes nothing.
use Rattle.std.specs.Prelude.{ℕ, Some, None, Ok, Err, Option, Result}
use Rattle.refusal.specs.declared.Layer.{Layer}
use Rattle.refusal.specs.declared.Layer.TheVariants.{Program, Certificate, Source, Survey, Writer}
use Rattle.refusal.specs.declared.Refusal.{Refusal}
use Rattle.refusal.specs.Numbers.{number_of}
use Rattle.verdict.specs.declared.Verdict.{Verdict}
use Rattle.verdict.specs.declared.Verdict.TheVariants as verdict
use Rattle.refutation.specs.declared.Refutation.{Refutation}
use Rattle.refutation.specs.declared.Refutation.TheVariants as refutation
use Rattle.settlement.specs.declared.Settlement.{Settlement}
use Rattle.settlement.specs.declared.Settlement.TheVariants as settlement
use Rattle.session.specs.declared.Answer.{Answer}
use Rattle.session.specs.declared.Answer.TheVariants as answer
use Rattle.boundary.specs.declared.answers.Told.{Told}

-- an answer that is a word and a number
abbrev pub worded : ℕ → ℕ → Told
worded word number = record { word = word; reason = 0; layer = 0; number = number; rule = 0 }

-- the number of a layer
abbrev pub layer_number : Layer → ℕ
layer_number Program = 1
layer_number Certificate = 2
layer_number Source = 3
layer_number Survey = 4
layer_number Writer = 5

-- a refusal: the numbers of its reason and of its layer, and its place
abbrev pub refusal_told : Refusal → Told
refusal_told r = record { word = 0; reason = number_of r.reason; layer = layer_number r.layer; number = r.place; rule = 0 }

-- that a call was done
abbrev pub done_told : Result (Unit {0}) Refusal → Told
done_told (Ok u) = worded 1 0
done_told (Err e) = refusal_told e

-- what judge answers
abbrev pub verdict_told : Result Verdict Refusal → Told
verdict_told (Ok (verdict.Broken k)) = worded 2 k
verdict_told (Ok (verdict.Unlevelled a)) = worded 3 a
verdict_told (Ok (verdict.Ungrounded a)) = worded 4 a
verdict_told (Ok (verdict.Accepted m)) = worded 5 m
verdict_told (Err e) = refusal_told e

-- what refute answers
abbrev pub refutation_told : Result Refutation Refusal → Told
refutation_told (Ok refutation.Undoubted) = worded 6 0
refutation_told (Ok (refutation.Escaped x)) = record { word = 7; reason = 0; layer = 0; number = x.atom; rule = x.rule }
refutation_told (Ok (refutation.Accepted m)) = worded 5 m
refutation_told (Err e) = refusal_told e

-- what settle answers
abbrev pub settlement_told : Result Settlement Refusal → Told
settlement_told (Ok (settlement.Broken k)) = worded 2 k
settlement_told (Ok (settlement.Ranked k)) = worded 8 k
settlement_told (Ok (settlement.Looped m)) = worded 9 m
settlement_told (Err e) = refusal_told e

-- what a call of a list answers
abbrev pub answer_told : Answer → Told
answer_told (answer.Done r) = done_told r
answer_told (answer.Judged r) = verdict_told r
answer_told (answer.Refuted r) = refutation_told r
answer_told (answer.Settled r) = settlement_told r

-- what a call answers that may not have been performed
abbrev pub maybe_told : Option Answer → Told
maybe_told (Some x) = answer_told x
maybe_told None = worded 10 0
