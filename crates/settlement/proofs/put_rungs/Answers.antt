-- One atom more has the rung of its round, or keeps its level.
use Rattle.std.proofs.Common.{◌≡◌, ℕ, ◌+◌, ◌≤◌, ◌&&◌, ◌==◌, cond, eqb, leb, if◌then◌else◌, List, Some, None, Option, sym, refl, ap, ◌∙◌, ⊎_elim, arith}
use Rattle.std.proofs.lemmas.Bool.{and_from, and_parts, cases_lt, cond-false, cond-true, eq-eqb, le-leb, leb-true, ne_eqb}
use Rattle.std.proofs.lemmas.Option.{cond_some, none-some}
use Rattle.levels.specs.Table.{level_of, with_level}
use Rattle.tables.specs.Entries.{with_put}
use Rattle.tables.proofs.Entries.{changed, changed_all, changed_kept, changed_none, changed_put}
use Rattle.rounds.specs.Taking.{number_in}
use Rattle.settlement.proofs.Tables.{table_of_levels}
use Rattle.settlement.proofs.put_rungs.Given as given
use Rattle.settlement.proofs.put_rungs.Goals.{Joined-rung_at, in-Some, in_default}
use Rattle.settlement.proofs.put_rungs.Goals as goal

module _ {L : Type 0} (rung : ℕ → L) (rounds : List ℕ) (entries : List (Option L)) where
  abbrev old : ℕ → Option L
  old = level_of entries

  abbrev new : ℕ → Option L
  new a = cond (number_in rounds a == 0) (old a) (Some (rung (number_in rounds a)))

  -- the order was asked for the rung of the number of the atom k
  module _ (count : ℕ) (few : (a : ℕ) → number_in rounds a ≤ count) (n k number : ℕ) (read : number ≡ number_in rounds k)
      (found : Option L) (asked : found ≡ (if leb 1 number && leb number count then Some (rung number) else None))
      (before : List (Option L)) (is : before ≡ changed new old n k) where
    puts : (after : List (Option L)) (level : L) → 1 ≤ k → found ≡ Some level → after ≡ with_level before k level → after ≡ changed new old n (k + 1)
    puts after level some hit put =
        let has = cond_some (leb 1 number && leb number count) (rung number) level (sym asked ∙ hit) in
        let ranked = leb-true 1 number (and_parts (leb 1 number) (leb number count) has.0).0 in
        let given : new k ≡ Some level = cond-false (eqb (number_in rounds k) 0) (old k) (Some (rung (number_in rounds k))) (ne_eqb (number_in rounds k) 0 (λ z. omega arith)) ∙ ap Some (ap rung (sym read) ∙ has.1) in
        put ∙ ap (with_put before k) (sym given) ∙ ap (λ xs. with_put xs k (new k)) is ∙ changed_put new old n k some

    keeps : found ≡ None → before ≡ changed new old n (k + 1)
    keeps miss =
        ⊎_elim
        (λ low. is ∙ changed_kept new old n k (cond-true (eqb (number_in rounds k) 0) (old k) (Some (rung (number_in rounds k))) (eq-eqb (number_in rounds k) 0 (omega arith))))
        (λ ranked. absurd (none-some (rung number) (sym miss ∙ asked ∙ cond-true (leb 1 number && leb number count) (Some (rung number)) None (and_from (leb 1 number) (leb number count) (le-leb 1 number ranked) (le-leb number count (omega (arith, few k)))))))
        (cases_lt number 1)

pub atoms-init : goal.atoms-init
atoms-init g c = record {
  entries = table_of_levels c.args.levels.now.entries.now c.args.n c.requires.entries ∙ changed_none (new g.L.Level.rung c.args.rounds.now c.args.levels.now.entries.now) (level_of c.args.levels.now.entries.now) c.args.n;
  named = refl;
}

turn : (g : given.Over) (c : Joined-rung_at g) → c.match-rung_at.levels.entries.now ≡ changed (new g.L.Level.rung c.args.rounds.now c.args.levels.now.entries.now) (level_of c.args.levels.now.entries.now) c.args.n (c.atoms.atom + 1)
turn g c =
    let level = g.L.Level in
    let rounds = c.args.rounds.now in
    let entries = c.args.levels.now.entries.now in
    let read = c.from.ensures ∙ c.number_at.ensures.value in
    let before = c.atoms.levels.entries.now in
    let is = c.atoms.invariant.entries in
    elim c.match-rung_at.branch [
      | in-Some w ↦
          ap (λ t. t.entries.now) w.levels-is
          ∙ puts level.rung rounds entries level.RUNGS c.requires.few c.args.n c.atoms.atom c.from.result read c.rung_at.result c.rung_at.ensures.value before is w.put.new.self.entries.now w.in-Some.rung (omega arith) w.in-Some.is w.put.ensures.after
      | in_default w ↦
          ap (λ t. t.entries.now) w.levels-is
          ∙ keeps level.rung rounds entries level.RUNGS c.requires.few c.args.n c.atoms.atom c.from.result read c.rung_at.result c.rung_at.ensures.value before is w.in_default.is
    ]

pub atoms-preserved : goal.atoms-preserved
atoms-preserved g c = record {
  entries = turn g (goal.at.atoms-preserved g c).Joined-rung_at;
  named = elim c.match-rung_at.branch [
    | in-Some w ↦ ap (λ t. t.entries.ghost_name) w.levels-is ∙ w.put.ensures.named ∙ c.atoms.invariant.named
    | in_default w ↦ ap (λ t. t.entries.ghost_name) w.levels-is ∙ c.atoms.invariant.named
  ];
}

pub returns-after-rung_at-clause-after : goal.returns-after-rung_at-clause-after
returns-after-rung_at-clause-after g c =
    turn g (goal.at.returns-after-rung_at-clause-after g c).Joined-rung_at
    ∙ changed_all (new g.L.Level.rung c.args.rounds.now c.args.levels.now.entries.now) (level_of c.args.levels.now.entries.now) c.args.n (c.atoms.atom + 1) (omega arith)
