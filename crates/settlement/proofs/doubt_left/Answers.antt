-- One atom more is sifted.
use Rattle.std.proofs.Common.{◌≡◌, ℕ, ◌+◌, ◌≤◌, ◌==◌, List, ap, ◌∙◌, arith}
use Rattle.marks.specs.Marks.{byte_of, sifted}
use Rattle.tables.specs.Entries.{with_put}
use Rattle.tables.proofs.Entries.{changed, changed_all, changed_next, changed_none, changed_put}
use Rattle.rounds.specs.Taking.{number_in}
use Rattle.settlement.proofs.Tables.{byte_here, table_of_bytes}
use Rattle.settlement.proofs.doubt_left.Goals.{After-sift}
use Rattle.settlement.proofs.doubt_left.Goals as goal

module _ (marks rounds : List ℕ) (n : ℕ) where
  abbrev new : ℕ → ℕ
  new a = sifted (number_in rounds a == 0) (byte_of marks a)

  sifts : (k number : ℕ) (before after : List ℕ) → 1 ≤ k → k ≤ n → before ≡ changed new (byte_of marks) n k → number ≡ number_in rounds k → after ≡ with_put before k (sifted (number == 0) (byte_of before k)) → after ≡ changed new (byte_of marks) n (k + 1)
  sifts k number before after some within is read put =
      let same : byte_of before k ≡ byte_of marks k = ap (λ xs. byte_of xs k) is ∙ byte_here (changed new (byte_of marks) n k) k (byte_of marks k) (changed_next new (byte_of marks) n k some within) in
      put
      ∙ ap (λ b. with_put before k (sifted (number == 0) b)) same
      ∙ ap (λ m. with_put before k (sifted (m == 0) (byte_of marks k))) read
      ∙ ap (λ xs. with_put xs k (new k)) is
      ∙ changed_put new (byte_of marks) n k some

pub atoms-init : goal.atoms-init
atoms-init c = table_of_bytes c.args.marks.now c.args.n c.requires ∙ changed_none (new c.args.marks.now c.args.rounds.now c.args.n) (byte_of c.args.marks.now) c.args.n

turn : (c : After-sift) → c.sift.new.marks ≡ changed (new c.args.marks.now c.args.rounds.now c.args.n) (byte_of c.args.marks.now) c.args.n (c.atoms.atom + 1)
turn c = sifts c.args.marks.now c.args.rounds.now c.args.n c.atoms.atom c.number_at.result c.atoms.marks c.sift.new.marks (omega arith) (omega arith) c.atoms.invariant c.number_at.ensures.value c.sift.ensures.after

pub atoms-preserved : goal.atoms-preserved
atoms-preserved c = turn (goal.at.atoms-preserved c).After-sift

pub returns-2 : goal.returns-2
returns-2 c = record {
  after = turn (goal.at.returns-2 c).After-sift ∙ changed_all (new c.args.marks.now c.args.rounds.now c.args.n) (byte_of c.args.marks.now) c.args.n (c.atoms.atom + 1) (omega arith);
}
