-- The rules of one atom more are asked, until no atom is due in the round.
use Rattle.std.proofs.Common.{◌≡◌, ℕ, ◌+◌, ◌-◌, suc, sym, subst, ap, ◌∙◌, arith}
use Rattle.std.proofs.Math.Path.{fun_ext}
use Rattle.marks.specs.Marks.{marked}
use Rattle.rankings.specs.Rounds.{round_upto, takes_some}
use Rattle.tables.specs.Entries.{table_of}
use Rattle.waiting.specs.Waiting.{Held, any_under, key_of}
use Rattle.waiting.proofs.Counts.{fewer_once_taken}
use Rattle.rounds.specs.Progress.{Progress}
use Rattle.rounds.specs.Taking.{number_in}
use Rattle.rounds.proofs.Closing.{all_in_table, next_round, takes_when_due}
use Rattle.rounds.proofs.Numbers.{marked_known}
use Rattle.rounds.proofs.Progress.{atom_taken}
use Rattle.rounds.proofs.take_round.Given as given
use Rattle.rounds.proofs.take_round.Goals.{In-Some, In_default}
use Rattle.rounds.proofs.take_round.Goals as goal

-- an atom whose rules are due in the round
held : (g : given.Over) (c : In-Some g) → Held c.atoms.taking.coming c.in-Some.atom c.args.round
held g c = c.take.ensures.held c.in-Some.atom c.in-Some.is

pub ask_rules-requires-clause-under : goal.ask_rules-requires-clause-under
ask_rules-requires-clause-under g c =
    let before = c.atoms.taking in
    let has = held g (goal.at.ask_rules-requires-clause-under g c).In-Some in
    let next : c.args.round ≡ suc (c.args.round - 1) = omega (arith, c.requires.first) in
    atom_taken (g.S.RuleSource.meaning c.args.set.now.source.now) (marked c.args.set.now.marks.now) (c.args.round - 1) (number_in before.positions) (key_of before.waiting) (key_of before.coming) c.atoms.rounds
    c.in-Some.atom has.1 (has.0 ∙ next) (key_of c.take.new.self) c.in-Some.ensures.after c.atoms.invariant.under

pub ask_rules-requires-clause-some : goal.ask_rules-requires-clause-some
ask_rules-requires-clause-some g c = (held g (goal.at.ask_rules-requires-clause-some g c).In-Some).1

pub atoms-smaller : goal.atoms-smaller
atoms-smaller g c =
    let has = held g (goal.at.atoms-smaller g c).In-Some in
    let fewer = fewer_once_taken 4098 (key_of c.atoms.taking.coming) (key_of c.take.new.self) c.in-Some.atom c.args.round c.in-Some.ensures.after has.0 has.3 has.1 has.2 in
    omega (arith, fewer, c.ask_rules.ensures.fewer)

-- no atom is due any more
over : (g : given.Over) (c : In_default g) → Progress (g.S.RuleSource.meaning c.args.set.now.source.now) (marked c.args.set.now.marks.now) (c.args.round - 1) 0 0 (key_of c.atoms.taking.waiting) (key_of c.take.new.self) (number_in c.atoms.taking.positions) c.atoms.rounds
over g c =
    let before = c.atoms.taking in
    subst (λ f. Progress (g.S.RuleSource.meaning c.args.set.now.source.now) (marked c.args.set.now.marks.now) (c.args.round - 1) 0 0 (key_of before.waiting) f (number_in before.positions) c.atoms.rounds) (sym (fun_ext c.in_default.ensures.after)) c.atoms.invariant.under

none_due : (g : given.Over) (c : In_default g) → (b : ℕ) → key_of c.take.new.self b ≡ suc (c.args.round - 1) → ⊥
none_due g c b due = let next : suc (c.args.round - 1) ≡ c.args.round = omega (arith, c.requires.first) in c.take.ensures.none c.in_default.is c.requires.first b (sym (c.in_default.ensures.after b) ∙ due ∙ next)

pub returns-clause-value : goal.returns-clause-value
returns-clause-value g c =
    let end = (goal.at.returns-clause-value g c).In_default in
    let p = g.S.RuleSource.meaning c.args.set.now.source.now in
    let set = marked c.args.set.now.marks.now in
    let last = c.args.round - 1 in
    let known = marked_known p c.args.set.now.marks.now c.requires.marks in
    let next : suc last ≡ c.args.round = omega (arith, c.requires.first) in
    let due : c.args.round + 1 ≡ suc (suc last) = omega (arith, c.requires.first) in
    c.has.ensures.value
    ∙ ap (any_under 4098 (key_of c.take.new.self)) due
    ∙ takes_when_due p set last (key_of c.atoms.taking.waiting) (key_of c.take.new.self) (number_in c.atoms.taking.positions) c.atoms.rounds (over g end) (none_due g end) known (omega (arith, next, c.requires.last)) (g.S.RuleSource.lawful c.args.set.now.source.now).atoms_bound
    ∙ ap (takes_some p set) next

pub returns-clause-rounds : goal.returns-clause-rounds
returns-clause-rounds g c =
    let end = (goal.at.returns-clause-rounds g c).In_default in
    let p = g.S.RuleSource.meaning c.args.set.now.source.now in
    let set = marked c.args.set.now.marks.now in
    let last = c.args.round - 1 in
    let next : suc last ≡ c.args.round = omega (arith, c.requires.first) in
    all_in_table p set last (key_of c.atoms.taking.waiting) (key_of c.take.new.self) (number_in c.atoms.taking.positions) c.atoms.rounds (over g end) (none_due g end)
    ∙ ap (λ k. table_of (round_upto p set k) p.atoms) next

pub returns-clause-under : goal.returns-clause-under
returns-clause-under g c =
    let end = (goal.at.returns-clause-under g c).In_default in
    let p = g.S.RuleSource.meaning c.args.set.now.source.now in
    let set = marked c.args.set.now.marks.now in
    let last = c.args.round - 1 in
    let known = marked_known p c.args.set.now.marks.now c.requires.marks in
    let next : suc last ≡ c.args.round = omega (arith, c.requires.first) in
    subst (λ k. Progress p set k 0 0 (key_of c.atoms.taking.waiting) (key_of c.take.new.self) (number_in c.atoms.taking.positions) c.atoms.rounds) next
    (next_round p set last (key_of c.atoms.taking.waiting) (key_of c.take.new.self) (number_in c.atoms.taking.positions) c.atoms.rounds (over g end) (none_due g end) known)
