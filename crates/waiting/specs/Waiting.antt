-- What waiting lists say: under which key each item waits. Assumes nothing.
use Rattle.std.specs.Prelude.{◌≡◌, ℕ, ◌-◌, ◌≤◌, ◌<◌, Bool, cond, not, ◌&&◌, is_some, Some, None, Option, ◌==◌, get_or, nat_le, nat_lt}
use Rattle.rules.specs.Program.{within}
use Rattle.rules.specs.Tests.{lowest, tally}
use Rattle.waiting.specs.declared.WaitingLists.{WaitingLists}

-- the key under which an item waits; 0 where it waits nowhere
abbrev pub key_of : {places : ℕ} → WaitingLists places → ℕ → ℕ
key_of lists item = get_or lists.keys item 0

-- there is a place for the item and for the key, and the item waits nowhere yet
abbrev pub free : ℕ → (ℕ → ℕ) → ℕ → ℕ → Bool
free places f item key = nat_le 1 item && nat_lt item places && within 4097 key && f item == 0

-- the keys once an item is added: that of the item where it is free, and each other as before
abbrev pub key_added : ℕ → (ℕ → ℕ) → ℕ → ℕ → ℕ → ℕ
key_added places f item key other = cond (other == item && free places f item key) key (f other)

-- the keys once an item is taken: none for the item, and each other as before
abbrev pub key_without : (ℕ → ℕ) → Option ℕ → ℕ → ℕ
key_without f None other = f other
key_without f (Some item) other = cond (other == item) 0 (f other)

-- the item waits under the key
abbrev pub Held : {places : ℕ} → WaitingLists places → ℕ → ℕ → Type 0
Held {places} lists item key = (key_of lists item ≡ key) × (1 ≤ item) × (item < places) × (1 ≤ key)

-- the item that stands first under the key, where one waits there
abbrev pub first_under : {places : ℕ} → WaitingLists places → ℕ → Option ℕ
first_under lists key = cond (within 4097 key && not (get_or lists.first key 0 == 0)) (Some (get_or lists.first key 0)) None

-- how many of the items wait under the key
unfoldable pub waiting_under : ℕ → (ℕ → ℕ) → ℕ → ℕ
waiting_under places f key = tally (λ item. f item == key) (places - 1)

-- some item waits under the key, which is not 0
abbrev pub any_under : ℕ → (ℕ → ℕ) → ℕ → Bool
any_under places f key = nat_le 1 key && is_some (lowest (λ item. f item == key) (places - 1))
