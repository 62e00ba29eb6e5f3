-- All rules wait for the start. Assumes nothing.
use Rattle.std.proofs.Common.{◌≡◌, ℕ, ◌+◌, ◌≤◌, ◌<◌, List, length, get_or, replicate, ◌-◌, refl, ap, ◌∙◌, ◌≢◌, inl, inr, ⊎_elim, arith}
use Rattle.std.proofs.lemmas.Bool.{cases_eq}
use Rattle.std.proofs.lemmas.List.FromFn.{length-map-range_with_len}
use Rattle.rules.specs.Program.{Program}
use Rattle.rules.specs.Stable.{Atoms}
use Rattle.rules.proofs.Parts.{no_rule, rule_at-get_or}
use Rattle.tables.specs.Entries.{table_of}
use Rattle.tables.proofs.Entries.{table_replicate}
use Rattle.waiting.specs.Waiting.{key_added, key_of}
use Rattle.waiting.specs.declared.WaitingLists.{WaitingLists}
use Rattle.rounds.specs.declared.standing.Taking.{Taking}
use Rattle.rounds.specs.Progress.{Begins, Idle, Under, start}
use Rattle.rounds.specs.Taking.{number_in}
use Rattle.rounds.proofs.Progress.{key_apart, key_here, place_of}
use Rattle.rounds.proofs.Tables.{number_in_table}

pub begins_none : (p : Program) (taking : Taking) → Idle taking → (after : WaitingLists 4098) → ((a : ℕ) → key_of after a ≡ key_added 4098 (key_of taking.coming) start 1 a) → (sized : length taking.positions ≡ 16384) → Begins p 1 (record { waiting = taking.waiting; coming = after; positions = taking.positions; sized = sized })
begins_none p taking idle after added sized = record {
  upto = omega arith;
  waits = λ j some before. absurd (omega (arith, some, before));
  only = λ j some. absurd (omega (arith, some, idle.waits j));
  first = key_here (key_of taking.coming) (key_of after) 4098 start 1 added (omega arith) (omega arith) (omega arith) (omega arith) (idle.comes start);
  others = λ a apart. key_apart (key_of taking.coming) (key_of after) 4098 start 1 added a apart ∙ idle.comes a;
  stands = idle.stands;
}

module _ (p : Program) (k : ℕ) (taking : Taking) (so_far : Begins p k taking) where
  -- one rule more waits for the start
  module _ (low : 1 ≤ k) (within : k ≤ length p.rules) (few : k ≤ 16384) (after : WaitingLists 16385) (added : (j : ℕ) → key_of after j ≡ key_added 16385 (key_of taking.waiting) k start j) where
    fresh : key_of taking.waiting k ≡ 0
    fresh = ⊎_elim (λ none. none) (λ some. absurd (omega (arith, (so_far.only k (omega (arith, some))).1))) (cases_eq (key_of taking.waiting k) 0)

    here : key_of after k ≡ start
    here = key_here (key_of taking.waiting) (key_of after) 16385 k start added low (omega (arith, few)) (omega arith) (omega arith) fresh

    apart_same : (j : ℕ) → j ≢ k → key_of after j ≡ key_of taking.waiting j
    apart_same = key_apart (key_of taking.waiting) (key_of after) 16385 k start added

    pub begins_more : (sized : length taking.positions ≡ 16384) → Begins p (k + 1) (record { waiting = after; coming = taking.coming; positions = taking.positions; sized = sized })
    begins_more sized = record {
      upto = omega (arith, within);
      waits = λ j some before. ⊎_elim
          (λ (same : j ≡ k). ap (key_of after) same ∙ here)
          (λ apart. apart_same j apart ∙ so_far.waits j some (omega (arith, before, apart)))
          (cases_eq j k);
      only = λ j some. ⊎_elim
          (λ (same : j ≡ k). (omega (arith, same, low), omega (arith, same)))
          (λ apart. let was = so_far.only j (omega (arith, some, apart_same j apart)) in (was.0, omega (arith, was.1)))
          (cases_eq j k);
      first = so_far.first;
      others = so_far.others;
      stands = so_far.stands;
    }

  -- after the last rule
  pub begun_all : (set : Atoms) → length p.rules < k → p.atoms ≤ 4096 → (rounds : List ℕ) → rounds ≡ table_of (λ a. 0) p.atoms → Under p set 0 0 0 taking rounds
  begun_all set past few rounds cleared =
      let waiting = key_of taking.waiting in
      let coming = key_of taking.coming in
      let number : (a : ℕ) → number_in rounds a ≡ 0 = λ a. ap (λ xs. number_in xs a) cleared ∙ number_in_table (λ b. 0) p.atoms refl (λ b beyond. refl) a in
      let due : (a : ℕ) → 1 ≤ key_of taking.coming a → a ≡ start = λ a some. ⊎_elim (λ same. same) (λ apart. absurd (omega (arith, some, so_far.others a apart))) (cases_eq a start) in
      record {
        sized = ap length cleared ∙ length-map-range_with_len (λ a. 0) 1 p.atoms;
        numbers = λ a. inl (number a);
        begun = λ j some. let was = so_far.only j some in record { rule = get_or p.rules (j - 1) no_rule; there = rule_at-get_or p j was.0 (omega (arith, was.1, so_far.upto)); behind = λ i a below at. absurd (omega (arith, below, so_far.stands j)) };
        asked_begun = λ some. absurd (omega (arith, some));
        placed = λ j r at supporting apart.
            let its = so_far.waits j (place_of p j r at).0 (omega (arith, past, (place_of p j r at).1)) in
            inr (inr (omega (arith, its), inl (ap coming its ∙ so_far.first)));
        asked_free = ⊎_elim (λ none. none) (λ some. absurd (omega (arith, (so_far.only 0 (omega (arith, some))).0))) (cases_eq (waiting 0) 0);
        now_early = λ some. absurd (omega (arith, some));
        coming_early = λ a now. inl (due a (omega (arith, now)));
        coming_bounded = λ a. ⊎_elim (λ (same : a ≡ start). omega (arith, ap coming same, so_far.first)) (λ apart. omega (arith, so_far.others a apart)) (cases_eq a start);
        coming_taken = λ a late. absurd (omega (arith, late, ap coming (due a (omega (arith, late))), so_far.first));
        taken_coming = λ a some. absurd (omega (arith, some, number a));
        coming_free = λ a within none. so_far.others a (λ same. omega (arith, same, within, few));
      }

-- in a table of zeros each number is 0
pub zero_numbers : (n a : ℕ) → number_in (replicate n 0) a ≡ 0
zero_numbers n a = ap (λ xs. number_in xs a) (table_replicate 0 n) ∙ number_in_table (λ b. 0) n refl (λ b beyond. refl) a
