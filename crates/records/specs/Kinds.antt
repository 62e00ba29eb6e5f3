-- The number of each kind of record. Assumes nothing.
use Rattle.std.specs.Prelude.{ℕ}
use Rattle.records.specs.declared.kind.RecordKind.{RecordKind}
use Rattle.records.specs.declared.kind.RecordKind.TheVariants.{ProgramHead, Rule, End, CertificateHead, Claim}

abbrev pub kind_number : RecordKind → ℕ
kind_number ProgramHead = 1
kind_number Rule = 2
kind_number End = 3
kind_number CertificateHead = 17
kind_number Claim = 18
