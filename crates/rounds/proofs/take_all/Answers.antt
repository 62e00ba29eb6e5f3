-- One round more takes an atom, or the last that does is found.
use Rattle.std.proofs.Common.{◌≡◌, ◌+◌, ◌-◌, ◌≤◌, ap, subst, sym, ◌∙◌, ⊎_elim, arith}
use Rattle.std.proofs.lemmas.Bool.{cases_lt}
use Rattle.marks.specs.Marks.{marked}
use Rattle.rankings.specs.Rounds.{round_upto, takes_some}
use Rattle.rankings.proofs.Needed.{needed_is}
use Rattle.tables.specs.Entries.{table_of}
use Rattle.rounds.specs.Progress.{Under}
use Rattle.rounds.proofs.Beginning.{zero_numbers}
use Rattle.rounds.proofs.Numbers.{marked_known}
use Rattle.rounds.proofs.Rounds.{last_needed, last_table}
use Rattle.rounds.proofs.take_all.Goals as goal

pub begin-requires-clause-idle : goal.begin-requires-clause-idle
begin-requires-clause-idle g c = record { waits = c.new.ensures.none; comes = c.new-2.ensures.none; stands = zero_numbers 16384 }

pub rounds-init : goal.rounds-init
rounds-init g c = record {
  written = c.begin.ensures.rounds;
  under = c.begin.ensures.under;
  each = λ j some before. absurd (omega arith);
}

pub rounds-preserved : goal.rounds-preserved
rounds-preserved g c =
    let p = g.S.RuleSource.meaning c.args.set.now.source.now in
    let set = marked c.args.set.now.marks.now in
    let same : c.rounds.round ≡ c.rounds.round + 1 - 1 = omega arith in
    record {
      written = c.take_round.ensures.rounds ∙ ap (λ k. table_of (round_upto p set k) p.atoms) same;
      under = subst (λ k. Under p set k 0 0 c.take_round.new.taking c.take_round.new.rounds) same c.take_round.ensures.under;
      each = λ j low before. ⊎_elim
          (λ early. c.rounds.invariant.each j low early)
          (λ late. let here : j ≡ c.rounds.round = omega (arith, before, late) in ap (takes_some p set) here ∙ sym c.if-not-take_round.ensures.value)
          (cases_lt j c.rounds.round);
    }

pub returns-then-not-take_round : goal.returns-then-not-take_round
returns-then-not-take_round g c =
    let p = g.S.RuleSource.meaning c.args.set.now.source.now in
    let set = marked c.args.set.now.marks.now in
    let known = marked_known p c.args.set.now.marks.now c.requires.marks in
    let round = c.rounds.round in
    let within : round ≤ p.atoms = omega (arith, c.atoms-last.ensures.value) in
    let none = sym c.if-not-take_round.ensures.value in
    record {
      value = sym (last_needed p set known (round - 1) round (omega arith) within none c.rounds.invariant.each);
      rounds = c.take_round.ensures.rounds ∙ last_table p set known (round - 1) round (omega arith) within none;
    }

-- every round takes some atom
pub returns-else-not-take_round-clause-value : goal.returns-else-not-take_round-clause-value
returns-else-not-take_round-clause-value g c =
    let p = g.S.RuleSource.meaning c.args.set.now.source.now in
    let set = marked c.args.set.now.marks.now in
    let round = c.rounds.round in
    let last : round ≡ p.atoms = omega (arith, c.atoms-last.ensures.value) in
    c.atoms-last.ensures.value
    ∙ sym (needed_is p set p.atoms (omega arith)
    (λ j low upto. ⊎_elim
    (λ before. c.rounds.invariant.each j low before)
    (λ here. let same : j ≡ round = omega arith in ap (takes_some p set) same ∙ sym c.if-not-take_round.ensures.value)
    (cases_lt j round))
    (λ j past upto. absurd (omega arith)))

pub returns-else-not-take_round-clause-rounds : goal.returns-else-not-take_round-clause-rounds
returns-else-not-take_round-clause-rounds g c =
    let p = g.S.RuleSource.meaning c.args.set.now.source.now in
    let set = marked c.args.set.now.marks.now in
    let last : c.rounds.round ≡ p.atoms = omega (arith, c.atoms-last.ensures.value) in
    c.take_round.ensures.rounds ∙ ap (λ k. table_of (round_upto p set k) p.atoms) last
