-- The item that stands first under a key waits there, and can be taken. Assumes nothing.
use Rattle.std.proofs.Common.{◌≡◌, ℕ, ◌-◌, ◌≤◌, Bool, true, false, not, ◌&&◌, cond, eqb, leb, get_or, set, is_some, Some, None, Option, refl, sym, ap, ◌∙◌, ⊎_elim, arith}
use Rattle.std.proofs.Math.Logic.{∥∥₁_elim, ∥∥₁_map}
use Rattle.std.proofs.Math.Nat.{ℕ_set}
use Rattle.std.specs.Coded.{le_prop}
use Rattle.std.proofs.lemmas.Bool.{and_from, and_left, and_parts, and_right, both_ways, cases_eq, cases_lt, eq-eqb, eqb-false, le-leb, lt-leb, ne_eqb, not-true}
use Rattle.rules.specs.Program.{within}
use Rattle.rules.proofs.Tests.{lowest_none, lowest_some, some_not_none, some_same, within_from, within_parts}
use Rattle.rules.specs.Tests.{lowest}
use Rattle.waiting.specs.declared.WaitingLists.{WaitingLists}
use Rattle.waiting.specs.Linked.{Linked}
use Rattle.waiting.specs.Waiting.{Held, any_under, first_under, key_of}
use Rattle.waiting.proofs.Linked.{first_has_key, first_has_place, linked_taken, none_waits}

-- what a choice says that gave a value, and one that gave none
module _ {X : Type 0} (x : X) where
  chosen : (test : Bool) (y : X) → cond test (Some x) None ≡ Some y → (test ≡ true) × (x ≡ y)
  chosen true y e = (refl, some_same e)
  chosen false y e = absurd (some_not_none (sym e))

  not_chosen : (test : Bool) → cond test (Some x) None ≡ None → test ≡ false
  not_chosen true e = absurd (some_not_none e)
  not_chosen false e = refl

module _ {places : ℕ} (lists : WaitingLists places) (key : ℕ) where
  module _ (item : ℕ) (found : first_under lists key ≡ Some item) where
    -- the key has a place, and its list begins with the item
    first_parts : (1 ≤ key) × (key ≤ 4097) × (get_or lists.first key 0 ≡ item) × (1 ≤ item)
    first_parts =
        let first = get_or lists.first key 0 in
        let tests = chosen first (within 4097 key && not (eqb first 0)) item found in
        let both = and_parts (within 4097 key) (not (eqb first 0)) tests.0 in
        let place = within_parts 4097 key both.0 in
        let some = eqb-false first 0 (not-true (eqb first 0) both.1) in
        (place.0, place.1, tests.1, ⊎_elim (λ none. absurd (some (tests.1 ∙ none))) (λ above. omega (arith, above)) (cases_eq item 0))

    pub first_is_held : Held lists item key
    first_is_held =
        let parts = first_parts in (
          ∥∥₁_elim lists.linked (ℕ_set _ _) (λ linked. first_has_key places lists.first lists.next lists.keys lists.first_sized lists.keys_sized linked key parts.0 parts.1 item parts.2 parts.3),
          parts.3,
          ∥∥₁_elim lists.linked le_prop (λ linked. first_has_place places lists.first lists.next lists.keys lists.first_sized lists.keys_sized linked key parts.0 parts.1 item parts.2 parts.3),
          parts.0,
        )

    pub linked_without_first : ∥ Linked places (set lists.first key (get_or lists.next item 0)) lists.next (set lists.keys item 0) ∥₁
    linked_without_first =
        let parts = first_parts in
        ∥∥₁_map lists.linked
        (λ linked. linked_taken places lists.first lists.next lists.keys lists.first_sized lists.keys_sized linked key parts.0 parts.1 item parts.2 parts.3)

  pub none_is_held : first_under lists key ≡ None → 1 ≤ key → (item : ℕ) → key_of lists item ≡ key → ⊥
  none_is_held missing low item has =
      let first = get_or lists.first key 0 in
      let test = not_chosen first (within 4097 key && not (eqb first 0)) missing in
      let none : key ≤ 4097 → first ≡ 0 = λ high. ⊎_elim
      (λ is. is)
      (λ some. absurd (both_ways _ test (and_from (within 4097 key) (not (eqb first 0)) (within_from 4097 key low high) (ap not (ne_eqb first 0 some)))))
      (cases_eq first 0) in
      ∥∥₁_elim lists.linked (λ x y. absurd x) (λ linked. none_waits places lists.first lists.next lists.keys linked key low none item has)

  found_under : (first : Option ℕ) → first_under lists key ≡ first → is_some first ≡ any_under places (key_of lists) key
  found_under (Some item) found =
      let held = first_is_held item found in
      let upto : item ≤ places - 1 = omega (arith, held.2) in
      sym (and_from (leb 1 key) (is_some (lowest (λ other. eqb (key_of lists other) key) (places - 1))) (le-leb 1 key held.3)
      (lowest_some (λ other. eqb (key_of lists other) key) (places - 1) item held.1 upto (eq-eqb (key_of lists item) key held.0)))
  found_under None missing =
      ⊎_elim
      (λ zero. sym (and_left (leb 1 key) (is_some (lowest (λ other. eqb (key_of lists other) key) (places - 1))) (lt-leb 1 key zero)))
      (λ low. sym (and_right (leb 1 key) (is_some (lowest (λ other. eqb (key_of lists other) key) (places - 1)))
      (ap is_some (lowest_none (λ other. eqb (key_of lists other) key) (places - 1) (λ item some within. ne_eqb (key_of lists item) key (λ has. none_is_held missing low item has))))))
      (cases_lt key 1)

  -- whether some item waits under the key
  pub any_from_first : is_some (first_under lists key) ≡ any_under places (key_of lists) key
  any_from_first = found_under (first_under lists key) refl
