-- How many items wait under a key, once one was taken from under it or added under another. Assumes nothing.
use Rattle.std.proofs.Common.{◌≡◌, ℕ, ◌-◌, ◌≤◌, ◌<◌, true, false, ◌&&◌, eqb, leb, ltb, Some, sym, refl, ap, ◌∙◌, ⊎_elim, arith}
use Rattle.std.proofs.Math.Path.{fun_ext}
use Rattle.std.proofs.lemmas.Bool.{and_from, and_left, and_parts, and_right, cases_Bool, cases_eq, cond-false, cond-true, eq-eqb, eqb-true, leb-true, ltb-true, ne_eqb}
use Rattle.rules.specs.Program.{within}
use Rattle.rules.specs.Tests.{tally}
use Rattle.rules.proofs.Tests.{tally_less, within_parts}
use Rattle.waiting.specs.Waiting.{free, key_added, key_without, waiting_under}

-- a place for both, and an item that waits nowhere
pub free_parts : (places : ℕ) (f : ℕ → ℕ) (item key : ℕ) → free places f item key ≡ true → (1 ≤ item) × (item < places) × (1 ≤ key) × (key ≤ 4097) × (f item ≡ 0)
free_parts places f item key h =
    let parts = and_parts (leb 1 item && ltb item places && within 4097 key) (eqb (f item) 0) h in
    let both = and_parts (leb 1 item && ltb item places) (within 4097 key) parts.0 in
    let known = and_parts (leb 1 item) (ltb item places) both.0 in
    let keyed = within_parts 4097 key both.1 in
    (leb-true 1 item known.0, ltb-true item places known.1, keyed.0, keyed.1, eqb-true (f item) 0 parts.1)

module _ (places : ℕ) (f g : ℕ → ℕ) (item key : ℕ) where
  module _ (after : (other : ℕ) → g other ≡ key_without f (Some item) other) where
    taken_here : g item ≡ 0
    taken_here = after item ∙ cond-true (eqb item item) 0 (f item) (eq-eqb item item refl)

    taken_apart : (other : ℕ) → (other ≡ item → ⊥) → g other ≡ f other
    taken_apart other apart = after other ∙ cond-false (eqb other item) 0 (f other) (ne_eqb other item apart)

    waited_before : 1 ≤ key → (other : ℕ) → eqb (g other) key ≡ true → eqb (f other) key ≡ true
    waited_before low other waits =
        let here = eqb-true (g other) key waits in
        eq-eqb (f other) key
        (⊎_elim
        (λ (same : other ≡ item). absurd (omega (arith, here, ap g same, taken_here, low)))
        (λ apart. sym (taken_apart other apart) ∙ here)
        (cases_eq other item))

    pub fewer_once_taken : f item ≡ key → 1 ≤ key → 1 ≤ item → item < places → waiting_under places g key < waiting_under places f key
    unfolding waiting_under
    fewer_once_taken has low some known =
        tally_less (λ other. eqb (g other) key) (λ other. eqb (f other) key) (waited_before low)
        (places - 1) item some (omega (arith, known))
        (ne_eqb (g item) key (λ e. omega (arith, low, e, taken_here)))
        (eq-eqb (f item) key has)

  module _ (other : ℕ) (after : (one : ℕ) → g one ≡ key_added places f item other one) where
    added_apart : (one : ℕ) → (one ≡ item → ⊥) → g one ≡ f one
    added_apart one apart = after one ∙ cond-false (eqb one item && free places f item other) other (f one) (and_left (eqb one item) (free places f item other) (ne_eqb one item apart))

    added_here : free places f item other ≡ true → g item ≡ other
    added_here is = after item ∙ cond-true (eqb item item && free places f item other) other (f item) (and_from (eqb item item) (free places f item other) (eq-eqb item item refl) is)

    added_nowhere : free places f item other ≡ false → (one : ℕ) → g one ≡ f one
    added_nowhere refused one = after one ∙ cond-false (eqb one item && free places f item other) other (f one) (and_right (eqb one item) (free places f item other) refused)

    -- where the item waits nowhere under 0
    same_test : free places f item other ≡ true → (other ≡ key → ⊥) → 1 ≤ key → (one : ℕ) → eqb (g one) key ≡ eqb (f one) key
    same_test is apart low one =
        let parts = free_parts places f item other is in
        ⊎_elim
        (λ (same : one ≡ item). ap (λ z. eqb (g z) key) same ∙ ap (λ z. eqb z key) (added_here is) ∙ ne_eqb other key apart ∙ sym (ap (λ z. eqb (f z) key) same ∙ ne_eqb (f item) key (λ e. omega (arith, e, parts.4, low))))
        (λ elsewhere. ap (λ z. eqb z key) (added_apart one elsewhere))
        (cases_eq one item)

    same_count : ((one : ℕ) → eqb (g one) key ≡ eqb (f one) key) → waiting_under places g key ≡ waiting_under places f key
    unfolding waiting_under
    same_count same = ap (λ test. tally test (places - 1)) (fun_ext same)

    -- where the item waited nowhere, and so under 0
    fewer_under_none : free places f item other ≡ true → (other ≡ key → ⊥) → key ≡ 0 → waiting_under places g key < waiting_under places f key
    unfolding waiting_under
    fewer_under_none is apart none =
        let parts = free_parts places f item other is in
        tally_less (λ one. eqb (g one) key) (λ one. eqb (f one) key)
        (λ one waits. eq-eqb (f one) key (⊎_elim
        (λ (same : one ≡ item). ap f same ∙ parts.4 ∙ sym none)
        (λ elsewhere. sym (added_apart one elsewhere) ∙ eqb-true (g one) key waits)
        (cases_eq one item)))
        (places - 1) item parts.0 (omega (arith, parts.1))
        (ap (λ z. eqb z key) (added_here is) ∙ ne_eqb other key apart)
        (eq-eqb (f item) key (parts.4 ∙ sym none))

    pub no_more_once_added : (other ≡ key → ⊥) → waiting_under places g key ≤ waiting_under places f key
    no_more_once_added apart =
        ⊎_elim
        (λ is. ⊎_elim
        (λ (none : key ≡ 0). omega (arith, fewer_under_none is apart none))
        (λ some. omega (arith, same_count (same_test is apart (omega (arith, some)))))
        (cases_eq key 0))
        (λ refused. omega (arith, same_count (λ one. ap (λ z. eqb z key) (added_nowhere refused one))))
        (cases_Bool (free places f item other))
