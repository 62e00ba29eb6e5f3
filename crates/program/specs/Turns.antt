-- Proofs: what the rules were read from, turn by turn. Assumes nothing.
use Rattle.std.specs.Prelude.{◌≡◌, ℕ, zero, suc, ◌+◌, List, [], ◌∷◌, drop, Some, None, Ok, Err, Option, Result}
use Rattle.std.proofs.Math.Path.{refl}
use Rattle.refusal.specs.declared.Reason.{Reason}
use Rattle.refusal.specs.declared.Refusal.{Refusal}
use Rattle.refusal.specs.Results.{err_not_ok}
use Rattle.rules.specs.Program.{Rule}
use Rattle.program.specs.Reading.{rule_record, opened, rule_of, atoms_fault, ended, after_end, after_rule, by_fault, last_record, next_record, rules_from}
use Rattle.program.specs.declared.reader.RuleRecord.{RuleRecord}

-- the rules that were read here are none, at the end record, or one and those after it
pub data Turn (room n stated count : ℕ) (rest : List ℕ) (place : ℕ) (rules : List Rule) : Type 0 where
  none_left : rules ≡ [] → opened rest place ≡ Ok None → ended rest place count stated ≡ Ok tt → Turn room n stated count rest place rules
  one_more : (less size k : ℕ) (others : List Rule) → room ≡ suc less → opened rest place ≡ Ok (Some (rule_record size k)) → atoms_fault n (rule_of rest size k) ≡ None
      → rules_from less n stated (count + 1) (drop (4 + size) rest) (place + (4 + size)) ≡ Ok others → rules ≡ rule_of rest size k ∷ others → Turn room n stated count rest place rules

module _ (n stated count : ℕ) (rest : List ℕ) (place : ℕ) (rules : List Rule) where
  at_end : (room : ℕ) → opened rest place ≡ Ok None → (x : Result (Unit {0}) Refusal) → ended rest place count stated ≡ x → after_end x ≡ Ok rules → Turn room n stated count rest place rules
  at_end room is (Err e) was h = absurd (err_not_ok h)
  at_end room is (Ok u) was h = let same : rules ≡ [] = cc in none_left same is was

  at_last : (o : Result (Option RuleRecord) Refusal) → opened rest place ≡ o → last_record stated rest place count o ≡ Ok rules → Turn 0 n stated count rest place rules
  at_last (Err e) is h = absurd (err_not_ok h)
  at_last (Ok None) is h = at_end 0 is (ended rest place count stated) refl h
  at_last (Ok (Some r)) is h = absurd (err_not_ok h)

  module _ (room : ℕ) where
    more : ℕ → Result (List Rule) Refusal
    more size = rules_from room n stated (count + 1) (drop (4 + size) rest) (place + (4 + size))

    at_more : (size k : ℕ) → opened rest place ≡ Ok (Some (rule_record size k)) → atoms_fault n (rule_of rest size k) ≡ None
        → (x : Result (List Rule) Refusal) → more size ≡ x → after_rule (rule_of rest size k) x ≡ Ok rules → Turn (suc room) n stated count rest place rules
    unfolding more
    at_more size k is fine (Err e) was h = absurd (err_not_ok h)
    at_more size k is fine (Ok others) was h = let same : rules ≡ rule_of rest size k ∷ others = cc in one_more room size k others refl is fine was same

    at_fault : (size k : ℕ) → opened rest place ≡ Ok (Some (rule_record size k)) → (o : Option Reason) → atoms_fault n (rule_of rest size k) ≡ o
        → by_fault place (rule_of rest size k) (more size) o ≡ Ok rules → Turn (suc room) n stated count rest place rules
    at_fault size k is (Some why) was h = absurd (err_not_ok h)
    at_fault size k is None was h = at_more size k is was (more size) refl h

    at_next : (o : Result (Option RuleRecord) Refusal) → opened rest place ≡ o → next_record n stated rest place count more o ≡ Ok rules → Turn (suc room) n stated count rest place rules
    at_next (Err e) is h = absurd (err_not_ok h)
    at_next (Ok None) is h = at_end (suc room) is (ended rest place count stated) refl h
    at_next (Ok (Some r)) is h = at_fault r.size r.positive is (atoms_fault n (rule_of rest r.size r.positive)) refl h

  pub turn_of : (room : ℕ) → rules_from room n stated count rest place ≡ Ok rules → Turn room n stated count rest place rules
  unfolding rules_from more
  turn_of zero h = at_last (opened rest place) refl h
  turn_of (suc room) h = at_next room (opened rest place) refl h
