-- Lists stay linked when an item is added, or taken from the head of its list. Assumes nothing.
use Rattle.std.proofs.Common.{◌≡◌, ℕ, ◌≤◌, ◌<◌, false, ◌||◌, eqb, List, [], ◌∷◌, length, get_or, replicate, set, sym, refl, ap, ◌∙◌, subst, ⊎_elim, arith}
use Rattle.std.proofs.lemmas.Bool.{both_ways, cases_eq, eq-eqb, eqb-true, ne_eqb}
use Rattle.std.proofs.lemmas.List.{get_or-set_other, get_or-set_same}
use Rattle.rules.specs.Tests.{member}
use Rattle.waiting.specs.Linked.{Chain, Distinct, Linked, Listed}
use Rattle.waiting.proofs.Chains.{chain_kept, chain_nonzero, chain_zero, read_zeros}

-- what holds of one number and of each other one holds of all
each_from : (P : ℕ → Type 0) (item : ℕ) → P item → ((other : ℕ) → (other ≡ item → ⊥) → P other) → (other : ℕ) → P other
each_from P item here apart other = ⊎_elim (λ (same : other ≡ item). subst P (sym same) here) (apart other) (cases_eq other item)

-- NOTHING WAITS

pub linked_empty : (places k : ℕ) → Linked places (replicate k 0) (replicate places 0) (replicate places 0)
linked_empty places k = record {
  listed = λ key low high. record {
    items = [];
    chained = read_zeros k key;
    distinct = tt;
    owned = λ item. sym (ap (λ z. eqb z key) (read_zeros places item) ∙ ne_eqb 0 key (λ e. omega (arith, low, e)));
  };
  bounded = λ item. omega (arith, read_zeros places item);
}

module _ (places : ℕ) (first next keys : List ℕ) (linked : Linked places first next keys) (key : ℕ) (low : 1 ≤ key) where
  -- where the list of a key that has a place begins with 0, no item has the key
  pub none_waits : (key ≤ 4097 → get_or first key 0 ≡ 0) → (item : ℕ) → get_or keys item 0 ≡ key → ⊥
  none_waits none item has =
      let high : key ≤ 4097 = omega (arith, linked.bounded item, has) in
      let here = linked.listed key low high in
      let bare = chain_zero places next (get_or first key 0) here.items here.chained (none high) in
      both_ways (member item here.items) (ap (member item) bare) (here.owned item ∙ eq-eqb (get_or keys item 0) key has)

module _ (places : ℕ) (first next keys : List ℕ) (firsts : length first ≡ 4098) (keyed : length keys ≡ places) (linked : Linked places first next keys) (key : ℕ) (low : 1 ≤ key) (high : key ≤ 4097) where
  abbrev here : Listed places next keys (get_or first key 0) key
  here = linked.listed key low high

  -- THE FIRST ITEM IS TAKEN

  module _ (item : ℕ) (is_first : get_or first key 0 ≡ item) (some : 1 ≤ item) where
    begins : (rest : List ℕ) × (here.items ≡ item ∷ rest) × (item < places) × Chain places next (get_or next item 0) rest
    begins = chain_nonzero places next item here.items (subst (λ x. Chain places next x here.items) is_first here.chained) some

    pub first_has_place : item < places
    first_has_place = begins.2

    pub first_has_key : get_or keys item 0 ≡ key
    first_has_key = eqb-true (get_or keys item 0) key (sym (here.owned item) ∙ ap (member item) begins.1 ∙ ap (λ t. t || member item begins.0) (eq-eqb item item refl))

    rest_distinct : Distinct (item ∷ begins.0)
    rest_distinct = subst Distinct begins.1 here.distinct

    -- the key of each item, and the first item of each key, once the item is taken
    taken_key : get_or (set keys item 0) item 0 ≡ 0
    taken_key = get_or-set_same keys item 0 0 (omega (arith, keyed, first_has_place))

    taken_first : get_or (set first key (get_or next item 0)) key 0 ≡ get_or next item 0
    taken_first = get_or-set_same first key (get_or next item 0) 0 (omega (arith, firsts, high))

    taken_here : Listed places next (set keys item 0) (get_or (set first key (get_or next item 0)) key 0) key
    taken_here = record {
      items = begins.0;
      chained = subst (λ x. Chain places next x begins.0) (sym taken_first) begins.3;
      distinct = rest_distinct.1;
      owned = each_from (λ other. member other begins.0 ≡ eqb (get_or (set keys item 0) other 0) key) item
          (rest_distinct.0 ∙ sym (ap (λ z. eqb z key) taken_key ∙ ne_eqb 0 key (λ e. omega (arith, low, e))))
          (λ other apart.
          ap (λ t. t || member other begins.0) (sym (ne_eqb other item apart))
          ∙ sym (ap (member other) begins.1)
          ∙ here.owned other
          ∙ ap (λ z. eqb z key) (sym (get_or-set_other keys item other 0 0 apart)));
    }

    taken_apart : (a : ℕ) → (a ≡ key → ⊥) → 1 ≤ a → a ≤ 4097 → Listed places next (set keys item 0) (get_or (set first key (get_or next item 0)) a 0) a
    taken_apart a apart above within =
        let there = linked.listed a above within in record {
          items = there.items;
          chained = subst (λ x. Chain places next x there.items) (sym (get_or-set_other first key a (get_or next item 0) 0 apart)) there.chained;
          distinct = there.distinct;
          owned = each_from (λ other. member other there.items ≡ eqb (get_or (set keys item 0) other 0) a) item
              (there.owned item
              ∙ ap (λ z. eqb z a) first_has_key
              ∙ ne_eqb key a (λ e. apart (sym e))
              ∙ sym (ap (λ z. eqb z a) taken_key ∙ ne_eqb 0 a (λ e. omega (arith, above, e))))
              (λ other elsewhere. there.owned other ∙ ap (λ z. eqb z a) (sym (get_or-set_other keys item other 0 0 elsewhere)));
        }

    pub linked_taken : Linked places (set first key (get_or next item 0)) next (set keys item 0)
    linked_taken = record {
      listed = each_from (λ a. 1 ≤ a → a ≤ 4097 → Listed places next (set keys item 0) (get_or (set first key (get_or next item 0)) a 0) a) key (λ above within. taken_here) taken_apart;
      bounded = each_from (λ other. get_or (set keys item 0) other 0 ≤ 4097) item
          (omega (arith, taken_key))
          (λ other apart. omega (arith, get_or-set_other keys item other 0 0 apart, linked.bounded other));
    }

  -- AN ITEM IS ADDED

  module _ (nexts : length next ≡ places) (item : ℕ) (some : 1 ≤ item) (known : item < places) (free : get_or keys item 0 ≡ 0) where
    added_next : get_or (set next item (get_or first key 0)) item 0 ≡ get_or first key 0
    added_next = get_or-set_same next item (get_or first key 0) 0 (omega (arith, nexts, known))

    added_key : get_or (set keys item key) item 0 ≡ key
    added_key = get_or-set_same keys item key 0 (omega (arith, keyed, known))

    -- it stood in no list
    new_to : (a : ℕ) → 1 ≤ a → (there : Listed places next keys (get_or first a 0) a) → member item there.items ≡ false
    new_to a above there = there.owned item ∙ ap (λ z. eqb z a) free ∙ ne_eqb 0 a (λ e. omega (arith, above, e))

    -- and so each list is linked as before
    kept : (a : ℕ) → 1 ≤ a → (there : Listed places next keys (get_or first a 0) a) → Chain places (set next item (get_or first key 0)) (get_or first a 0) there.items
    kept a above there = chain_kept places next item (get_or first key 0) (get_or first a 0) there.items (new_to a above there) there.chained

    added_here : Listed places (set next item (get_or first key 0)) (set keys item key) (get_or (set first key item) key 0) key
    added_here = record {
      items = item ∷ here.items;
      chained = (get_or-set_same first key item 0 (omega (arith, firsts, high)), some, known, subst (λ x. Chain places (set next item (get_or first key 0)) x here.items) (sym added_next) (kept key low here));
      distinct = (new_to key low here, here.distinct);
      owned = each_from (λ other. member other (item ∷ here.items) ≡ eqb (get_or (set keys item key) other 0) key) item
          (ap (λ t. t || member item here.items) (eq-eqb item item refl) ∙ sym (eq-eqb (get_or (set keys item key) item 0) key added_key))
          (λ other apart.
          ap (λ t. t || member other here.items) (ne_eqb other item apart)
          ∙ here.owned other
          ∙ ap (λ z. eqb z key) (sym (get_or-set_other keys item other key 0 apart)));
    }

    added_apart : (a : ℕ) → (a ≡ key → ⊥) → 1 ≤ a → a ≤ 4097 → Listed places (set next item (get_or first key 0)) (set keys item key) (get_or (set first key item) a 0) a
    added_apart a apart above within =
        let there = linked.listed a above within in record {
          items = there.items;
          chained = subst (λ x. Chain places (set next item (get_or first key 0)) x there.items) (sym (get_or-set_other first key a item 0 apart)) (kept a above there);
          distinct = there.distinct;
          owned = each_from (λ other. member other there.items ≡ eqb (get_or (set keys item key) other 0) a) item
              (new_to a above there ∙ sym (ap (λ z. eqb z a) added_key ∙ ne_eqb key a (λ e. apart (sym e))))
              (λ other elsewhere. there.owned other ∙ ap (λ z. eqb z a) (sym (get_or-set_other keys item other key 0 elsewhere)));
        }

    pub linked_added : Linked places (set first key item) (set next item (get_or first key 0)) (set keys item key)
    linked_added = record {
      listed = each_from (λ a. 1 ≤ a → a ≤ 4097 → Listed places (set next item (get_or first key 0)) (set keys item key) (get_or (set first key item) a 0) a) key (λ above within. added_here) added_apart;
      bounded = each_from (λ other. get_or (set keys item key) other 0 ≤ 4097) item
          (omega (arith, added_key, high))
          (λ other apart. omega (arith, get_or-set_other keys item other key 0 apart, linked.bounded other));
    }
