-- What an accepted answer says of the two files. Assumes nothing.
use Rattle.std.specs.Prelude.{◌≡◌, ℕ, ◌⊎◌, List, take, Ok, codes, Result}
use Rattle.refusal.specs.declared.Refusal.{Refusal}
use Rattle.rules.specs.Program.{Program}
use Rattle.rules.specs.Stable.{Stable}
use Rattle.rules.specs.Tests.{member}
use Rattle.orders.specs.Numbers.{number_kind, number_bytes}
use Rattle.orders.specs.Routes.{route_kind, route_bytes}
use Rattle.program.specs.Encoding as program_file
use Rattle.certificate.specs.Claims.{atoms_of}
use Rattle.certificate.specs.Encoding as certificate_file
use Rattle.certificate.specs.declared.Claim.{Claim}
use Rattle.verdict.specs.declared.Verdict.{Verdict}
use Rattle.verdict.specs.declared.Verdict.TheVariants.{Accepted}

-- the file is the encoding of claims of just these atoms
pub record Claims {L : Type 0} (encode : L → List ℕ) (n kind : ℕ) (file atoms : List ℕ) : Type 0 where
  pub claims : List (Claim L)
  pub storable : certificate_file.Storable encode n kind claims
  pub encoded : file ≡ certificate_file.encoding encode n kind claims
  pub named : atoms_of claims ≡ atoms

-- the files are the encodings of a program and of claims, with numbers or routes for levels, and the claimed atoms are a stable set of the program
pub record StableFiles (program certificate : List ℕ) : Type 0 where
  pub rules : Program
  pub storable : program_file.Storable rules
  pub encoded : program ≡ program_file.encoding rules
  pub atoms : List ℕ
  pub claimed : Claims number_bytes rules.atoms number_kind certificate atoms ⊎ Claims route_bytes rules.atoms route_kind certificate atoms
  pub stable : Stable rules (λ a. member a atoms)

-- only such files are accepted
abbrev pub AcceptsOnlyStableFiles : List ℕ → List ℕ → Result Verdict Refusal → Type 0
AcceptsOnlyStableFiles program certificate answer = (m : ℕ) → answer ≡ Ok (Accepted m) → StableFiles program certificate

-- a line that begins with the word `accepted` is printed for such files only
abbrev pub PrintsOnlyStable : List ℕ → List ℕ → List ℕ → Type 0
PrintsOnlyStable program certificate line = take 8 line ≡ codes "accepted" → StableFiles program certificate
