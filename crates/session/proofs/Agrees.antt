-- The mark bytes agree with the set that is read from the calls. Assumes nothing.
use Rattle.std.proofs.Common.{◌≡◌, ℕ, Bool, true, false, cond, eqb, List, is_ok, Some, None, Option, unwrap_or, refl, ap, ◌∙◌}
use Rattle.rules.specs.Program.{Program}
use Rattle.rules.specs.Stable.{Atoms}
use Rattle.marks.specs.Calls.{after_doubt, after_mark, after_unmark, doubt_checked, named_checked}
use Rattle.marks.specs.Marks.{lowest_unlawful, marked}
use Rattle.marks.proofs.Written.{Writes, doubt_writes, mark_writes, unmark_writes}
use Rattle.settlement.specs.Settle.{settled}
use Rattle.settlement.proofs.MarksAfter.{lawful_after, marked_after}
use Rattle.session.specs.Marked.{Event, accepted, said}
use Rattle.session.specs.Run.{Tables, after_call, answer_to}
use Rattle.session.specs.declared.Call.{Call}
use Rattle.session.specs.declared.Call.TheVariants as call

-- an atom is marked in the table exactly when it is in the set, and every byte has a meaning
pub record Agrees (set : Atoms) (marks : List ℕ) : Type 0 where
  pub shown : (a : ℕ) → marked marks a ≡ set a
  pub lawful : lowest_unlawful marks ≡ None

-- the set after an event
abbrev pub after_event : {L : Type 0} → Atoms → Event L → Atoms
after_event set e a = unwrap_or (said e a) (set a)

-- a call that writes a byte where it is accepted, and says of the atom what the byte does
module _ (set : Atoms) (marks : List ℕ) (a x : ℕ) (agrees : Agrees set marks) where
  by_writes : (accepted into : Bool) (after : List ℕ) → Writes marks a x accepted after
      → ((b : ℕ) → (accepted ≡ true → marked after b ≡ cond (eqb b a) into (marked marks b)))
      → Agrees (λ b. unwrap_or (cond accepted (cond (eqb b a) (Some into) None) None) (set b)) after
  by_writes true into after writes marked_so = record {
    shown = λ b. marked_so b refl ∙ elim (eqb b a) as (λ t. cond t into (marked marks b) ≡ unwrap_or (cond t (Some into) None) (set b)) [ true ↦ refl | false ↦ agrees.shown b ];
    lawful = writes.lawful_after agrees.lawful;
  }
  by_writes false into after writes marked_so = record {
    shown = λ b. ap (λ m. marked m b) (writes.as_before refl) ∙ agrees.shown b;
    lawful = writes.lawful_after agrees.lawful;
  }

-- a call that says nothing, and leaves the marked set as it is
module _ (set : Atoms) (marks : List ℕ) (agrees : Agrees set marks) where
  abbrev none : Option Bool
  none = None

  by_silence : (accepted : Bool) (after : List ℕ) → ((b : ℕ) → marked after b ≡ marked marks b) → lowest_unlawful after ≡ None → Agrees (λ b. unwrap_or (cond accepted none none) (set b)) after
  by_silence true after same lawful = record { shown = λ b. same b ∙ agrees.shown b; lawful = lawful }
  by_silence false after same lawful = record { shown = λ b. same b ∙ agrees.shown b; lawful = lawful }

module _ {L : Type 0} (below : L → L → Bool) (count : ℕ) (rung : ℕ → L) (p : Program) (set : Atoms) (t : Tables L) (rounds : List ℕ) (agrees : Agrees set t.marks) where
  pub agrees_after : (c : Call L) → Agrees (after_event set (record { call = c; answer = answer_to below count rung p t rounds c })) (after_call below count rung p t rounds c).marks
  agrees_after (call.Mark a) = by_writes set t.marks a 1 agrees (is_ok (named_checked p.atoms t.marks a)) true (after_mark p.atoms t.marks a) (mark_writes p.atoms t.marks a) (λ b ok. (mark_writes p.atoms t.marks a).marked_after ok b)
  agrees_after (call.Unmark a) = by_writes set t.marks a 0 agrees (is_ok (named_checked p.atoms t.marks a)) false (after_unmark p.atoms t.marks a) (unmark_writes p.atoms t.marks a) (λ b ok. (unmark_writes p.atoms t.marks a).marked_after ok b)
  agrees_after (call.Doubt a) = by_writes set t.marks a 2 agrees (is_ok (doubt_checked p.atoms t.marks a)) true (after_doubt p.atoms t.marks a) (doubt_writes p.atoms t.marks a) (λ b ok. (doubt_writes p.atoms t.marks a).marked_after ok b)
  agrees_after (call.Level a x) = by_silence set t.marks agrees (accepted (answer_to below count rung p t rounds (call.Level a x))) t.marks (λ b. refl) agrees.lawful
  agrees_after (call.Ask q) = by_silence set t.marks agrees (accepted (answer_to below count rung p t rounds (call.Ask q))) t.marks (λ b. refl) agrees.lawful
  agrees_after call.Settle = by_silence set t.marks agrees false (settled count rung p t.marks t.entries rounds).marks (marked_after count rung p t.marks t.entries rounds) (lawful_after count rung p t.marks t.entries rounds agrees.lawful)
  agrees_after (call.Trial a) = by_silence set t.marks agrees (accepted (answer_to below count rung p t rounds (call.Trial a))) t.marks (λ b. refl) agrees.lawful
