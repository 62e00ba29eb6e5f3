-- What the program reader answers, for every list of bytes: each check in its order, with its place. Assumes nothing.
use Rattle.std.specs.Prelude.{◌≡◌, ℕ, zero, suc, ◌+◌, ◌*◌, ◌%◌, ◌≤◌, Bool, cond, ◌&&◌, List, [], ◌∷◌, length, drop, Some, None, Ok, Err, Option, Result, ◌==◌, nat_le}
use Rattle.std.specs.Option.{unwrap_or}
use Rattle.std.specs.List.{between}
use Rattle.refusal.specs.declared.Reason.{Reason}
use Rattle.refusal.specs.declared.Reason.TheVariants.{Cut, Kind, Length, Limit, Atom, Order, BothParts, RuleCount, Trailing}
use Rattle.refusal.specs.declared.Layer.TheVariants.{Program as ProgramLayer}
use Rattle.refusal.specs.declared.Refusal.{Refusal}
use Rattle.refusal.specs.Refused.{refused}
use Rattle.records.specs.Words.{words, header_of, word_at}
use Rattle.records.specs.declared.Header.{Header}
use Rattle.rules.specs.Program.{Rule, Program, within, ascending, disjoint}
use Rattle.rules.specs.Tests.{all}
use Rattle.program.specs.declared.reader.FileHead.{FileHead}
use Rattle.program.specs.declared.reader.RuleRecord.{RuleRecord}

abbrev pub refusal_at : Reason → ℕ → Refusal
refusal_at why place = refused ProgramLayer why place

abbrev pub refuse : {X : Type 0} → Reason → ℕ → Result X Refusal
refuse why place = Err (refusal_at why place)

-- THE HEAD

-- both numbers are there, and within the limits
abbrev pub by_numbers : Option ℕ → Option ℕ → Result FileHead Refusal
by_numbers None k = refuse Cut 0
by_numbers (Some n) None = refuse Cut 0
by_numbers (Some n) (Some k) = cond (nat_le n 4096 && nat_le k 8000) (Ok (record { atoms = n; rules = k })) (refuse Limit 0)

abbrev pub by_head_header : List ℕ → Option Header → Result FileHead Refusal
by_head_header bytes None = refuse Cut 0
by_head_header bytes (Some h) = cond (h.kind == 1) (cond (h.length == 4) (by_numbers (word_at bytes 4) (word_at bytes 6)) (refuse Length 0)) (refuse Kind 0)

abbrev pub file_head : List ℕ → Result FileHead Refusal
file_head bytes = by_head_header bytes (header_of bytes)

-- THE RECORDS AFTER THE HEAD: `rest` is what is left of the file, and begins at `place`

-- what a rule record of `size` bytes with k positive atoms states
abbrev pub rule_record : ℕ → ℕ → RuleRecord
rule_record size k = record { size = size; positive = k }

-- a rule record has two numbers at least, and at most 255 atoms besides
abbrev pub rule_length : ℕ → Bool
rule_length size = nat_le 4 size && (nat_le size 514 && size % 2 == 0)

-- the record has as many atoms as its positive count says
abbrev pub by_count : ℕ → ℕ → Option ℕ → Result (Option RuleRecord) Refusal
by_count place size None = refuse Cut place
by_count place size (Some k) = cond (nat_le (2 * k + 4) size) (Ok (Some (rule_record size k))) (refuse Length place)

abbrev pub opened_rule : List ℕ → ℕ → ℕ → Result (Option RuleRecord) Refusal
opened_rule rest place size = cond (rule_length size) (cond (nat_le (4 + size) (length rest)) (by_count place size (word_at rest 6)) (refuse Cut place)) (refuse Length place)

abbrev pub by_header : List ℕ → ℕ → Option Header → Result (Option RuleRecord) Refusal
by_header rest place None = refuse Cut place
by_header rest place (Some h) = cond (h.kind == 2) (opened_rule rest place h.length) (cond (h.kind == 3) (cond (h.length == 0) (Ok None) (refuse Length place)) (refuse Kind place))

-- which record stands here, a rule's or, as none, the end's: whether it is cut, its kind, its length, its contents, its positive count
abbrev pub opened : List ℕ → ℕ → Result (Option RuleRecord) Refusal
opened rest place = by_header rest place (header_of rest)

-- what is known of a record that stands here
abbrev pub Fitting : List ℕ → Result (Option RuleRecord) Refusal → Type 0
Fitting rest (Err e) = Unit {0}
Fitting rest (Ok None) = 4 ≤ length rest
Fitting rest (Ok (Some r)) = (4 + r.size ≤ length rest) × (2 * r.positive + 4 ≤ r.size) × (r.size % 2 ≡ 0) × (r.size ≤ 514)

-- the rule in a record of `size` bytes with k positive atoms
abbrev pub rule_of : List ℕ → ℕ → ℕ → Rule
rule_of rest size k = record {
  head = unwrap_or (word_at rest 4) 0;
  positive = words (between 8 (8 + 2 * k) rest);
  negative = words (between (8 + 2 * k) (4 + size) rest);
}

-- each atom of the rule is one of 1 to n; the head may be 0
abbrev pub known : ℕ → Rule → Bool
known n r = nat_le r.head n && (all (within n) r.positive && all (within n) r.negative)

-- what is wrong with the atoms of a rule, in the order of the checks
abbrev pub atoms_fault : ℕ → Rule → Option Reason
atoms_fault n r = cond (known n r) (cond (ascending r.positive && ascending r.negative) (cond (disjoint r.positive r.negative) None (Some BothParts)) (Some Order)) (Some Atom)

-- a fault, as a call answers it
abbrev pub checked : ℕ → Option Reason → Result (Unit {0}) Refusal
checked place None = Ok tt
checked place (Some why) = refuse why place

-- the end record: there are as many rules as stated, and nothing follows
abbrev pub ended : List ℕ → ℕ → ℕ → ℕ → Result (Unit {0}) Refusal
ended rest place count stated = cond (count == stated) (cond (length rest == 4) (Ok tt) (refuse Trailing (place + 4))) (refuse RuleCount place)

abbrev pub after_end : Result (Unit {0}) Refusal → Result (List Rule) Refusal
after_end (Ok u) = Ok []
after_end (Err e) = Err e

abbrev pub after_rule : Rule → Result (List Rule) Refusal → Result (List Rule) Refusal
after_rule r (Ok rs) = Ok (r ∷ rs)
after_rule r (Err e) = Err e

-- the rule r, if nothing is wrong with it, and then `more`
abbrev pub by_fault : ℕ → Rule → Result (List Rule) Refusal → Option Reason → Result (List Rule) Refusal
by_fault place r more (Some why) = refuse why place
by_fault place r more None = after_rule r more

-- where no rule has room any more
abbrev pub last_record : ℕ → List ℕ → ℕ → ℕ → Result (Option RuleRecord) Refusal → Result (List Rule) Refusal
last_record stated rest place count (Err e) = Err e
last_record stated rest place count (Ok None) = after_end (ended rest place count stated)
last_record stated rest place count (Ok (Some r)) = refuse Limit place

-- where a rule has room: `more` are the rules after one of `size` bytes
abbrev pub next_record : ℕ → ℕ → List ℕ → ℕ → ℕ → (ℕ → Result (List Rule) Refusal) → Result (Option RuleRecord) Refusal → Result (List Rule) Refusal
next_record n stated rest place count more (Err e) = Err e
next_record n stated rest place count more (Ok None) = after_end (ended rest place count stated)
next_record n stated rest place count more (Ok (Some r)) = by_fault place (rule_of rest r.size r.positive) (more r.size) (atoms_fault n (rule_of rest r.size r.positive))

-- the rules from here on, of n atoms, where `count` stand before and `room` more are allowed
unfoldable pub rules_from : (room : ℕ) → ℕ → ℕ → ℕ → List ℕ → ℕ → Result (List Rule) Refusal
rules_from zero n stated count rest place = last_record stated rest place count (opened rest place)
rules_from (suc room) n stated count rest place =
    next_record n stated rest place count (λ size. rules_from room n stated (count + 1) (drop (4 + size) rest) (place + (4 + size))) (opened rest place)

-- THE FILE

abbrev pub with_atoms : ℕ → Result (List Rule) Refusal → Result Program Refusal
with_atoms n (Ok rs) = Ok (record { atoms = n; rules = rs })
with_atoms n (Err e) = Err e

abbrev pub by_head : List ℕ → Result FileHead Refusal → Result Program Refusal
by_head bytes (Err e) = Err e
by_head bytes (Ok h) = with_atoms h.atoms (rules_from 8000 h.atoms h.rules 0 (drop 8 bytes) 8)

-- the program in the bytes, or the refusal: the size first, then the head, then the records in turn
abbrev pub program_in : List ℕ → Result Program Refusal
program_in bytes = cond (nat_le (length bytes) 65000) (by_head bytes (file_head bytes)) (refuse Limit 0)

-- the program that was read; none is the empty one
abbrev pub read_or_empty : Result Program Refusal → Program
read_or_empty (Ok p) = p
read_or_empty (Err e) = record { atoms = 0; rules = [] }

-- the number of atoms of the program that was read
abbrev pub atoms_read : Result Program Refusal → Result ℕ Refusal
atoms_read (Ok p) = Ok p.atoms
atoms_read (Err e) = Err e
