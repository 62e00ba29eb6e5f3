-- The law from making on. Assumes nothing.
use Rattle.std.proofs.Common.{ℕ, Bool, List, []}
use Rattle.rules.specs.Program.{Program}
use Rattle.levels.specs.Order.{Order}
use Rattle.survey.specs.Making.{claims_for, claims_or_none}
use Rattle.survey.proofs.Made.{made_for, made_from_none}
use Rattle.survey.proofs.Marked.{made_lawful}
use Rattle.session.specs.Law.{HoldsAfterAll}
use Rattle.session.specs.Made.{claimed, made_tables, no_atoms}
use Rattle.session.proofs.Law.{holds_after_all}

module _ {L : Type 0} (below : L → L → Bool) (count : ℕ) (rung : ℕ → L) (laws : Order below count rung) (p : Program) (marks entries : ℕ) where
  -- with nothing marked
  pub holds_from_nothing : HoldsAfterAll below count rung p no_atoms (made_tables {L = L} marks entries [])
  holds_from_nothing = holds_after_all below count rung laws p no_atoms (made_tables {L = L} marks entries []) (record { shown = (made_from_none {L = L} marks entries).marked_are_claimed; lawful = made_lawful {L = L} marks [] })

  -- from a certificate, whether or not it is refused
  pub holds_from_claims : (width : ℕ) (decode : List ℕ → L) (n kind : ℕ) (bytes : List ℕ) → HoldsAfterAll below count rung p (claimed (claims_or_none (claims_for width decode n kind marks entries bytes))) (made_tables marks entries (claims_or_none (claims_for width decode n kind marks entries bytes)))
  holds_from_claims width decode n kind bytes =
      let claims = claims_or_none (claims_for width decode n kind marks entries bytes) in
      holds_after_all below count rung laws p (claimed claims) (made_tables marks entries claims) (record { shown = (made_for width decode n kind bytes marks entries).marked_are_claimed; lawful = made_lawful marks claims })
