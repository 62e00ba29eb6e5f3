-- Which bytes hold which claims, in the words of the file, and a refusal that never comes. Assumes nothing.
use Rattle.std.specs.Prelude.{◌≡◌, ℕ, List, Ok, Err, ◌≢◌}
use Rattle.refusal.specs.declared.Reason.TheVariants.{RecordCount}
use Rattle.refusal.specs.declared.Refusal.{Refusal}
use Rattle.certificate.specs.Encoding.{encoding, Storable}
use Rattle.certificate.specs.Reading.{claims_in}
use Rattle.certificate.specs.declared.Claim.{Claim}

module _ {L : Type 0} (width : ℕ) (encode : L → List ℕ) (decode : List ℕ → L) (n kind : ℕ) (bytes : List ℕ) where
  -- the bytes hold claims exactly when these can be stored and the bytes are their encoding
  abbrev pub ReadsExactly : Type 0
  ReadsExactly = (claims : List (Claim L))
      → (claims_in width decode n kind bytes ≡ Ok claims → Storable encode n kind claims × (bytes ≡ encoding encode n kind claims))
      × (Storable encode n kind claims → bytes ≡ encoding encode n kind claims → claims_in width decode n kind bytes ≡ Ok claims)

module _ {L : Type 0} (width : ℕ) (decode : List ℕ → L) (n kind : ℕ) (bytes : List ℕ) where
  -- no certificate has more claims than atoms: they ascend within 1 to n, and one that does not is refused before
  abbrev pub NeverTooMany : Type 0
  NeverTooMany = (e : Refusal) → claims_in width decode n kind bytes ≡ Err e → e.reason ≢ RecordCount
