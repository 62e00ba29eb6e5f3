-- What a layer's refusal is, and the text that is printed for it. Assumes nothing.
use Rattle.std.specs.Prelude.{ℕ, List, ◌++◌, codes, decimal}
use Rattle.refusal.specs.declared.Reason.{Reason}
use Rattle.refusal.specs.declared.Layer.{Layer}
use Rattle.refusal.specs.declared.Refusal.{Refusal}
use Rattle.refusal.specs.Numbers.{number_of, letter_of}

-- a layer refuses for a reason, at a place
abbrev pub refused : Layer → Reason → ℕ → Refusal
refused layer reason place = record { reason = reason; layer = layer; place = place }

-- `refused`, the letter of the layer, the number of the reason, and the place
abbrev pub refusal_text : Refusal → List ℕ
refusal_text r = codes "refused " ++ (letter_of r.layer ++ (codes " " ++ (decimal (number_of r.reason) ++ (codes " " ++ decimal r.place))))
