-- One step more of a round in taking atoms. Assumes nothing.
use Rattle.std.proofs.Common.{◌≡◌, ℕ, suc, ◌+◌, ◌-◌, ◌<◌, ◌≤◌, true, false, eqb, leb, ltb, ◌==◌, ◌&&◌, List, length, Some, None, unwrap_or, ◌≢◌, sym, refl, ap, ◌∙◌, subst, ◌⊎◌, inl, inr, ⊎_elim, arith}
use Rattle.std.specs.List.{slice_get}
use Rattle.std.proofs.lemmas.Bool.{and_from, and_left, and_right, cases_Bool, cases_eq, cases_lt, cond-false, cond-true, eq-eqb, le-leb, le-ltb, lt-leb, lt-ltb, ne_eqb}
use Rattle.rules.specs.Program.{Rule, Program, within}
use Rattle.rules.specs.Questions.{rule_at}
use Rattle.rules.specs.Stable.{Atoms, supports}
use Rattle.rules.proofs.Tests.{some_not_none, some_same, within_from, within_from_nth}
use Rattle.rules.proofs.Parts.{rule_at_nth}
use Rattle.rankings.specs.Rounds.{round_upto, taken}
use Rattle.rankings.proofs.Numbers.{round_of_taken, round_untaken, untaken_at_zero}
use Rattle.waiting.specs.Waiting.{free, key_added, key_without}
use Rattle.tables.specs.Entries.{with_put}
use Rattle.tables.proofs.Entries.{entry_put_apart, entry_put_here, length-with_put}
use Rattle.rounds.proofs.Tables.{number_here}
use Rattle.rounds.specs.Taking.{number_in, taken_before}
use Rattle.rounds.specs.Progress.{Begun, Early, Numbered, Placed, Progress}

-- WHAT AN ITEM'S KEY IS AFTER A STEP

module _ (f g : ℕ → ℕ) where
  module _ (item : ℕ) (without : (other : ℕ) → g other ≡ key_without f (Some item) other) where
    pub key_gone : g item ≡ 0
    key_gone = without item ∙ cond-true (eqb item item) 0 (f item) (eq-eqb item item refl)

    pub key_kept : (other : ℕ) → other ≢ item → g other ≡ f other
    key_kept other apart = without other ∙ cond-false (eqb other item) 0 (f other) (ne_eqb other item apart)

    -- an item that still has a key had it before
    pub key_before : (other : ℕ) → 1 ≤ g other → (other ≢ item) × (g other ≡ f other)
    key_before other some =
        let apart : other ≢ item = λ e. omega (arith, some, ap g e ∙ key_gone) in
        (apart, key_kept other apart)

  module _ (places item key : ℕ) (added : (other : ℕ) → g other ≡ key_added places f item key other) where
    pub key_apart : (other : ℕ) → other ≢ item → g other ≡ f other
    key_apart other apart = added other ∙ cond-false (other == item && free places f item key) key (f other) (and_left (other == item) (free places f item key) (ne_eqb other item apart))

    pub key_here : 1 ≤ item → item < places → 1 ≤ key → key ≤ 4097 → f item ≡ 0 → g item ≡ key
    key_here low high some few none =
        added item
        ∙ cond-true (item == item && free places f item key) key (f item)
        (and_from (item == item) (free places f item key) (eq-eqb item item refl)
        (and_from (leb 1 item && ltb item places && within 4097 key) (f item == 0)
        (and_from (leb 1 item && ltb item places) (within 4097 key) (and_from (leb 1 item) (ltb item places) (le-leb 1 item low) (lt-ltb item places high)) (within_from 4097 key some few))
        (eq-eqb (f item) 0 none)))

-- a rule that is there
pub place_of : (p : Program) (k : ℕ) (r : Rule) → rule_at p k ≡ Some r → (1 ≤ k) × (k ≤ length p.rules)
place_of p k r at =
    ⊎_elim
    (λ none. absurd (some_not_none (sym at ∙ cond-true (eqb k 0) None (slice_get p.rules (k - 1)) (eq-eqb k 0 none))))
    (λ some. let low : 1 ≤ k = omega (arith, some) in (low, omega (arith, low, within_from_nth p.rules (k - 1) r (sym (rule_at_nth p k low) ∙ at))))
    (cases_eq k 0)

module _ (p : Program) (set : Atoms) (last : ℕ) where
  -- the table says that an atom was taken before this round exactly where a round up to the last took it
  pub before_is_taken : (rounds : List ℕ) (a : ℕ) → Numbered p set last rounds a → taken_before rounds (suc last) a ≡ taken p set last a
  before_is_taken rounds a numbered =
      let number = number_in rounds a in
      ⊎_elim
      (λ same. ⊎_elim
      (λ t. let found = round_of_taken p set last last a (omega arith) t in
      and_from (leb 1 number) (ltb number (suc last)) (le-leb 1 number (omega (arith, same, found.0))) (lt-ltb number (suc last) (omega (arith, same, found.1))) ∙ sym t)
      (λ f. and_left (leb 1 number) (ltb number (suc last)) (lt-leb 1 number (omega (arith, same, round_untaken p set last a f))) ∙ sym f)
      (cases_Bool (taken p set last a)))
      (λ new. and_right (leb 1 number) (ltb number (suc last)) (le-ltb number (suc last) (omega (arith, new.1))) ∙ sym (untaken_at_zero p set last a new.0))
      numbered

-- no rule has the number 0, so none waits
pub none_waits_0 : (p : Program) (set : Atoms) (last : ℕ) (waiting coming position : ℕ → ℕ) (rounds : List ℕ) (a k : ℕ) → Progress p set last a k waiting coming position rounds → waiting 0 ≡ 0
none_waits_0 p set last waiting coming position rounds a k now =
    ⊎_elim
    (λ none. none)
    (λ some. let its = now.begun 0 (omega (arith, some)) in absurd (omega (arith, (place_of p 0 its.rule its.there).0)))
    (cases_eq (waiting 0) 0)

-- ONE STEP MORE

module _ (p : Program) (set : Atoms) (last : ℕ) (position : ℕ → ℕ) where
  module _ (waiting coming : ℕ → ℕ) (rounds : List ℕ) where
    -- an atom is taken whose rules are to be asked in this round
    module _ (a : ℕ) (some : 1 ≤ a) (here : coming a ≡ suc last) (after : ℕ → ℕ) (without : (other : ℕ) → after other ≡ key_without coming (Some a) other) (now : Progress p set last 0 0 waiting coming position rounds) where
      kept : (other : ℕ) → other ≢ a → after other ≡ coming other
      kept = key_kept coming after a without

      gone : after a ≡ 0
      gone = key_gone coming after a without

      -- a key other than this round's
      differs : (other key : ℕ) → coming other ≡ key → key ≢ suc last → after other ≡ key
      differs other key at apart = kept other (λ same. apart (sym at ∙ ap coming same ∙ here)) ∙ at

      lower : (other : ℕ) → after other ≤ coming other
      lower other = ⊎_elim (λ (same : other ≡ a). omega (arith, ap after same, gone)) (λ apart. omega (arith, kept other apart)) (cases_eq other a)

      moved : (atom : ℕ) (r : Rule) → Placed p set last rounds coming 0 atom r → Placed p set last rounds after a atom r
      moved atom r placed =
          ⊎_elim inl
          (λ rest. inr (⊎_elim inl
          (λ left. inr (
            left.0,
            ⊎_elim
                (λ due. ⊎_elim (λ (same : atom ≡ a). inr same) (λ apart. inl (kept atom apart ∙ due)) (cases_eq atom a))
                (λ none. absurd (omega (arith, left.0, none)))
                left.1,
          ))
          rest))
          placed

      pub atom_taken : Progress p set last a 0 waiting after position rounds
      atom_taken = record {
        sized = now.sized;
        numbers = now.numbers;
        begun = now.begun;
        asked_begun = λ some. absurd (omega (arith, some));
        placed = λ k r at supporting apart. moved (waiting k) r (now.placed k r at supporting apart);
        asked_free = now.asked_free;
        now_early = λ _. now.coming_early a here;
        coming_early = λ other at. now.coming_early other (sym (key_before coming after a without other (omega (arith, at))).1 ∙ at);
        coming_bounded = λ other. omega (arith, lower other, now.coming_bounded other);
        coming_taken = λ other at. now.coming_taken other (sym (key_before coming after a without other (omega (arith, at))).1 ∙ at);
        taken_coming = λ other at. differs other (suc (suc last)) (now.taken_coming other at) (λ e. absurd (omega (arith, e)));
        coming_free = λ other within none. omega (arith, lower other, now.coming_free other within none);
      }

    -- no rule waits for the atom any more
    pub rules_asked : (a : ℕ) → ((k : ℕ) → waiting k ≡ a → ⊥) → Progress p set last a 0 waiting coming position rounds → Progress p set last 0 0 waiting coming position rounds
    rules_asked a none now = record {
      sized = now.sized;
      numbers = now.numbers;
      begun = now.begun;
      asked_begun = λ some. absurd (omega (arith, some));
      placed = λ k r at supporting apart.
          ⊎_elim inl
          (λ rest. inr (⊎_elim inl (λ left. inr (left.0, ⊎_elim inl (λ here. absurd (none k here)) left.1)) rest))
          (now.placed k r at supporting apart);
      asked_free = now.asked_free;
      now_early = λ some. absurd (omega (arith, some));
      coming_early = now.coming_early;
      coming_bounded = now.coming_bounded;
      coming_taken = now.coming_taken;
      taken_coming = now.taken_coming;
      coming_free = now.coming_free;
    }

    -- a rule is taken that waits for the atom
    module _ (a : ℕ) (k : ℕ) (some : 1 ≤ k) (first : 1 ≤ a) (here : waiting k ≡ a) (after : ℕ → ℕ) (without : (other : ℕ) → after other ≡ key_without waiting (Some k) other) (now : Progress p set last a 0 waiting coming position rounds) where
      pub rule_taken : Progress p set last a k after coming position rounds
      rule_taken = record {
        sized = now.sized;
        numbers = now.numbers;
        begun = λ j waits. let was = key_before waiting after k without j waits in subst (λ w. Begun p set last (position j) w j) (sym was.1) (now.begun j (omega (arith, waits, was.1)));
        asked_begun = λ _. subst (λ w. Begun p set last (position k) w k) here (now.begun k (omega (arith, here, first)));
        placed = λ j r at supporting apart.
            subst (λ w. Placed p set last rounds coming a w r) (sym (key_kept waiting after k without j apart)) (now.placed j r at supporting (λ none. absurd (omega (arith, none, (place_of p j r at).0))));
        asked_free = key_gone waiting after k without;
        now_early = now.now_early;
        coming_early = now.coming_early;
        coming_bounded = now.coming_bounded;
        coming_taken = now.coming_taken;
        taken_coming = now.taken_coming;
        coming_free = now.coming_free;
      }

    -- a rule that is asked waits for its next atom, at a later position
    module _ (a k : ℕ) (r : Rule) (there : rule_at p k ≡ Some r) (now : Progress p set last a k waiting coming position rounds) (at atom : ℕ) (here : slice_get r.positive at ≡ Some atom) (untaken : taken p set last atom ≡ false) (behind : (i b : ℕ) → i < at → slice_get r.positive i ≡ Some b → taken p set last b ≡ true)
        (after next : ℕ → ℕ) (put : after k ≡ atom) (same_keys : (other : ℕ) → other ≢ k → after other ≡ waiting other) (moved : next k ≡ at + 1) (stay : (other : ℕ) → other ≢ k → next other ≡ position other) where
      pub rule_waits : Progress p set last a 0 after coming next rounds
      rule_waits = record {
        sized = now.sized;
        numbers = now.numbers;
        begun = λ j waits. ⊎_elim
            (λ (same : j ≡ k).
            subst (λ i. Begun p set last (next i) (after i) i) (sym same)
            (record {
              rule = r;
              there = there;
              behind = λ i b below found. ⊎_elim
                  (λ early. inl (behind i b early found))
                  (λ late. let place : i ≡ at = omega (arith, moved, below, late) in inr (some_same (sym found ∙ ap (slice_get r.positive) place ∙ here) ∙ sym put))
                  (cases_lt i at);
            }))
            (λ apart. subst (λ i. Begun p set last i (after j) j) (sym (stay j apart))
            (subst (λ w. Begun p set last (position j) w j) (sym (same_keys j apart)) (now.begun j (omega (arith, same_keys j apart, waits)))))
            (cases_eq j k);
        asked_begun = λ some. absurd (omega (arith, some));
        placed = λ j s found supports' zero'. ⊎_elim
            (λ (same : j ≡ k).
            let its : s ≡ r = some_same (sym found ∙ ap (rule_at p) same ∙ there) in
            inr (inl (
              at,
              ap (λ t. slice_get t.positive at) its ∙ here ∙ ap Some (sym (ap after same ∙ put)),
              ap (λ i. taken p set last (after i)) same ∙ ap (taken p set last) put ∙ untaken,
            )))
            (λ apart. subst (λ w. Placed p set last rounds coming a w s) (sym (same_keys j apart)) (now.placed j s found supports' apart))
            (cases_eq j k);
        asked_free = same_keys 0 (λ e. omega (arith, e, (place_of p k r there).0)) ∙ none_waits_0 p set last waiting coming position rounds a k now;
        now_early = now.now_early;
        coming_early = now.coming_early;
        coming_bounded = now.coming_bounded;
        coming_taken = now.coming_taken;
        taken_coming = now.taken_coming;
        coming_free = now.coming_free;
      }

    -- a rule that is asked need not be asked again: its head is taken, where it supports it
    module _ (a k : ℕ) (r : Rule) (there : rule_at p k ≡ Some r) (now : Progress p set last a k waiting coming position rounds) where
      its_rule : (j : ℕ) (s : Rule) → rule_at p j ≡ Some s → j ≡ k → s ≡ r
      its_rule j s found same = some_same (sym found ∙ ap (rule_at p) same ∙ there)

      pub rule_done : (supports set r.head r ≡ true → number_in rounds r.head ≢ 0) → Progress p set last a 0 waiting coming position rounds
      rule_done done = record {
        sized = now.sized;
        numbers = now.numbers;
        begun = now.begun;
        asked_begun = λ some. absurd (omega (arith, some));
        placed = λ j s found supports' _. ⊎_elim
            (λ (same : j ≡ k). let its = its_rule j s found same in inl (λ none. done (ap (λ t. supports set t.head t) (sym its) ∙ supports') (ap (λ t. number_in rounds t.head) (sym its) ∙ none)))
            (λ apart. now.placed j s found supports' apart)
            (cases_eq j k);
        asked_free = none_waits_0 p set last waiting coming position rounds a k now;
        now_early = now.now_early;
        coming_early = now.coming_early;
        coming_bounded = now.coming_bounded;
        coming_taken = now.coming_taken;
        taken_coming = now.taken_coming;
        coming_free = now.coming_free;
      }

      -- the rule takes its head
      module _ (fresh : number_in rounds r.head ≡ 0) (takes : taken p set (suc last) r.head ≡ true) (low : 1 ≤ r.head) (high : r.head ≤ p.atoms) (few : p.atoms ≤ 4096) (round : suc last ≤ p.atoms)
          (after : ℕ → ℕ) (added : (other : ℕ) → after other ≡ key_added 4098 coming r.head (suc (suc last)) other) where
        abbrev put : List ℕ
        put = with_put rounds r.head (suc last)

        number_put : number_in put r.head ≡ suc last
        number_put = number_here put r.head (suc last) (entry_put_here rounds r.head (suc last) low (omega (arith, high, now.sized)))

        number_apart : (b : ℕ) → b ≢ r.head → number_in put b ≡ number_in rounds b
        number_apart b apart = ap (λ o. unwrap_or o 0) (entry_put_apart rounds r.head (suc last) b apart low)

        -- an atom with a number is another one
        numbered_apart : (b : ℕ) → 1 ≤ number_in rounds b → number_in put b ≡ number_in rounds b
        numbered_apart b some = number_apart b (λ same. absurd (omega (arith, some, ap (number_in rounds) same, fresh)))

        none_before : coming r.head ≡ 0
        none_before = now.coming_free r.head high fresh

        comes : after r.head ≡ suc (suc last)
        comes = key_here coming after 4098 r.head (suc (suc last)) added low (omega (arith, high, few)) (omega arith) (omega (arith, round, few)) none_before

        comes_apart : (b : ℕ) → b ≢ r.head → after b ≡ coming b
        comes_apart = key_apart coming after 4098 r.head (suc (suc last)) added

        -- an atom whose rules are due in this round is another one
        due_before : (b : ℕ) → after b ≡ suc last → coming b ≡ suc last
        due_before b due = sym (comes_apart b (λ same. absurd (omega (arith, due, ap after same, comes)))) ∙ due

        due_after : (b : ℕ) → coming b ≡ suc last → after b ≡ suc last
        due_after b due = comes_apart b (λ same. absurd (omega (arith, due, ap coming same, none_before))) ∙ due

        early : (b : ℕ) → Early p set last rounds b → Early p set last put b
        early b h = ⊎_elim inl (λ number. inr (omega (arith, number.0, numbered_apart b number.0), omega (arith, number.1, numbered_apart b number.0))) h

        numbered : (b : ℕ) → Numbered p set last put b
        numbered b =
            ⊎_elim
            (λ (same : b ≡ r.head).
            subst (Numbered p set last put) (sym same)
            (inr (⊎_elim (λ is. sym is ∙ fresh) (λ new. new.0) (now.numbers r.head), number_put, takes)))
            (λ apart. subst (λ m. (m ≡ round_upto p set last b) ⊎ ((round_upto p set last b ≡ 0) × (m ≡ suc last) × (taken p set (suc last) b ≡ true))) (sym (number_apart b apart)) (now.numbers b))
            (cases_eq b r.head)

        head_numbered : (s : Rule) → number_in rounds s.head ≢ 0 → number_in put s.head ≢ 0
        head_numbered s some none = ⊎_elim (λ (same : s.head ≡ r.head). omega (arith, none, ap (number_in put) same, number_put)) (λ apart. some (sym (number_apart s.head apart) ∙ none)) (cases_eq s.head r.head)

        still_placed : (atom : ℕ) (s : Rule) → Placed p set last rounds coming a atom s → Placed p set last put after a atom s
        still_placed atom s placed = ⊎_elim (λ some. inl (head_numbered s some)) (λ rest. inr (⊎_elim inl (λ left. inr (left.0, ⊎_elim (λ due. inl (due_after atom due)) inr left.1)) rest)) placed

        pub rule_takes : Progress p set last a 0 waiting after position (with_put rounds r.head (suc last))
        rule_takes = record {
          sized = length-with_put rounds r.head (suc last) ∙ now.sized;
          numbers = numbered;
          begun = now.begun;
          asked_begun = λ some. absurd (omega (arith, some));
          placed = λ j s found supports' _. ⊎_elim
              (λ (same : j ≡ k). inl (λ none. absurd (omega (arith, none, ap (λ t. number_in put t.head) (its_rule j s found same), number_put))))
              (λ apart. still_placed (waiting j) s (now.placed j s found supports' apart))
              (cases_eq j k);
          asked_free = none_waits_0 p set last waiting coming position rounds a k now;
          now_early = λ some. early a (now.now_early some);
          coming_early = λ b due. early b (now.coming_early b (due_before b due));
          coming_bounded = λ b. ⊎_elim (λ (same : b ≡ r.head). omega (arith, ap after same, comes)) (λ apart. omega (arith, comes_apart b apart, now.coming_bounded b)) (cases_eq b r.head);
          coming_taken = λ b next. ⊎_elim
              (λ (same : b ≡ r.head). ap (number_in put) same ∙ number_put)
              (λ apart. number_apart b apart ∙ now.coming_taken b (sym (comes_apart b apart) ∙ next))
              (cases_eq b r.head);
          taken_coming = λ b is. ⊎_elim
              (λ (same : b ≡ r.head). ap after same ∙ comes)
              (λ apart. comes_apart b apart ∙ now.taken_coming b (sym (number_apart b apart) ∙ is))
              (cases_eq b r.head);
          coming_free = λ b within none. let apart : b ≢ r.head = λ same. absurd (omega (arith, none, ap (number_in put) same, number_put)) in comes_apart b apart ∙ now.coming_free b within (sym (number_apart b apart) ∙ none);
        }
