-- The certificate file, field by field, and the claims that have one. Assumes nothing.
use Rattle.std.specs.Prelude.{ℕ, ◌≤◌, List, [], ◌∷◌, ◌++◌, length, Some, None, Option}
use Rattle.std.specs.List.{flat_map}
use Rattle.records.specs.Words.{two_bytes, record_bytes, word_bytes}
use Rattle.certificate.specs.Claims.{LawfulClaims}
use Rattle.certificate.specs.declared.Claim.{Claim}

-- kind 17: the number of atoms, the kind of the levels
abbrev pub head_bytes : ℕ → ℕ → List ℕ
head_bytes n kind = record_bytes 17 (word_bytes (n ∷ (kind ∷ [])))

-- kind 3: nothing
abbrev pub end_bytes : List ℕ
end_bytes = record_bytes 3 []

module _ {L : Type 0} (encode : L → List ℕ) where
  -- the bytes of a level, or nothing
  abbrev pub level_bytes : Option L → List ℕ
  level_bytes None = []
  level_bytes (Some x) = encode x

  -- kind 18: the atom, then its level or nothing
  abbrev pub claim_bytes : Claim L → List ℕ
  claim_bytes c = record_bytes 18 (two_bytes c.atom ++ level_bytes c.level)

  -- the file of claims over n atoms: its head, its claims, its end
  abbrev pub encoding : ℕ → ℕ → List (Claim L) → List ℕ
  encoding n kind claims = head_bytes n kind ++ (flat_map claim_bytes claims ++ end_bytes)

  -- the claims are lawful and within the limit of a file
  pub record Storable (n kind : ℕ) (claims : List (Claim L)) : Type 0 where
    pub lawful : LawfulClaims n claims
    pub size_bound : length (encoding n kind claims) ≤ 65000
