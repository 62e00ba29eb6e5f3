-- The number of each reason and the letter of each layer. Assumes nothing.
use Rattle.std.specs.Prelude.{ℕ, List, codes}
use Rattle.refusal.specs.declared.Reason.{Reason}
use Rattle.refusal.specs.declared.Reason.TheVariants.{Cut, Kind, Length, Limit, Atom, Order, BothParts, RuleCount, Trailing, LevelKind, AtomCount, TableLength, MarkByte, CallAtom, Unmarked, Rounds, RecordCount, Output}
use Rattle.refusal.specs.declared.Layer.{Layer}
use Rattle.refusal.specs.declared.Layer.TheVariants.{Program, Certificate, Source, Survey, Writer}

abbrev pub number_of : Reason → ℕ
number_of Cut = 1
number_of Kind = 2
number_of Length = 3
number_of Limit = 4
number_of Atom = 5
number_of Order = 6
number_of BothParts = 7
number_of RuleCount = 8
number_of Trailing = 9
number_of LevelKind = 10
number_of AtomCount = 11
number_of TableLength = 12
number_of MarkByte = 13
number_of CallAtom = 14
number_of Unmarked = 15
number_of Rounds = 16
number_of RecordCount = 17
number_of Output = 18

abbrev pub letter_of : Layer → List ℕ
letter_of Program = codes "P"
letter_of Certificate = codes "C"
letter_of Source = codes "R"
letter_of Survey = codes "S"
letter_of Writer = codes "W"
