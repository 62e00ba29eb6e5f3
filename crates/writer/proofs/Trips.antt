-- What is written reads back, and what was read is written as it stood. Assumes nothing.
use Rattle.std.proofs.Common.{◌≡◌, ℕ, ◌<◌, ◌≤◌, Bool, true, false, cond, leb, List, length, take, drop, is_ok, Ok, Err, Result, sym, refl, ap, ◌∙◌, subst, arith}
use Rattle.std.proofs.lemmas.List.{take_at}
use Rattle.std.proofs.lemmas.Bool.{leb-true, le-leb, lt-leb, cond-true, cond-false}
use Rattle.refusal.specs.declared.Reason.TheVariants.{Limit, Output}
use Rattle.refusal.specs.declared.Refusal.{Refusal}
use Rattle.refusal.specs.Results.{err_not_ok, passed}
use Rattle.rules.specs.Program.{Program, Lawful}
use Rattle.program.specs.Encoding.{encoding, Storable}
use Rattle.program.specs.Reading.{program_in}
use Rattle.program.proofs.Relation.{encoding_read, reads_exactly}
use Rattle.writer.specs.RoundTrip.{ReadsBack, SameBytes}
use Rattle.writer.specs.Writing.{refusal_at, size_checked, room_checked, write_answer, laid_over, output_after}
use Rattle.writer.proofs.Bytes.{laid_length}

-- where a length is answered, every check was passed
answered : (room n : ℕ) (few short : Bool) (size : ℕ) → room_checked room (cond few (cond short (Ok n) (Err (refusal_at Limit 65000))) (Err (refusal_at Limit 8000))) ≡ Ok size
    → ((few ≡ true) × (short ≡ true)) × ((n ≤ room) × (size ≡ n))
answered room n true true size is =
    let fits = passed (leb n room) err_not_ok is in
    let same : n ≡ size = cc in
    ((refl, refl), (leb-true n room fits.0, sym same))
answered room n true false size is = absurd (err_not_ok is)
answered room n false short size is = absurd (err_not_ok is)

module _ (p : Program) (lawful : Lawful p) where
  abbrev file : List ℕ
  file = encoding p

  module _ (room size : ℕ) (is : write_answer p room ≡ Ok size) where
    checks : ((leb (length p.rules) 8000 ≡ true) × (leb (length file) 65000 ≡ true)) × ((length file ≤ room) × (size ≡ length file))
    checks = answered room (length file) (leb (length p.rules) 8000) (leb (length file) 65000) size is

    storable : Storable p
    storable = record { lawful = lawful; rules_bound = leb-true (length p.rules) 8000 checks.0.0; size_bound = leb-true (length file) 65000 checks.0.1 }

  -- a storable program is written where there is room
  accepted : (room : ℕ) → Storable p → length file ≤ room → write_answer p room ≡ Ok (length file)
  accepted room fits long =
      ap (room_checked room)
      (cond-true (leb (length p.rules) 8000) (cond (leb (length file) 65000) (Ok (length file)) (Err (refusal_at Limit 65000))) (Err (refusal_at Limit 8000)) (le-leb (length p.rules) 8000 fits.rules_bound)
      ∙ cond-true (leb (length file) 65000) (Ok (length file)) (Err (refusal_at Limit 65000)) (le-leb (length file) 65000 fits.size_bound))
      ∙ cond-true (leb (length file) room) (Ok (length file)) (Err (refusal_at Output (length file))) (le-leb (length file) room long)

  module _ (out : List ℕ) where
    -- refused, the output stands
    pub stands : (e : Refusal) → Err e ≡ write_answer p (length out) → out ≡ output_after p out
    stands e is = ap (λ r. cond (is_ok r) (laid_over file out) out) is

    -- the file finds no room
    pub too_short : (size : ℕ) → Ok size ≡ size_checked p → length out < size → Err (refusal_at Output size) ≡ write_answer p (length out)
    too_short size is short = sym (cond-false (leb size (length out)) (Ok size) (Err (refusal_at Output size)) (lt-leb size (length out) short)) ∙ ap (room_checked (length out)) is

    module _ (size : ℕ) (is : Ok size ≡ size_checked p) (long : size ≤ length out) where
      pub length_answered : Ok size ≡ write_answer p (length out)
      length_answered = sym (cond-true (leb size (length out)) (Ok size) (Err (refusal_at Output size)) (le-leb size (length out) long)) ∙ ap (room_checked (length out)) is

      pub file_laid : laid_over file out ≡ output_after p out
      file_laid = ap (λ r. cond (is_ok r) (laid_over file out) out) length_answered

    length_by : (r : Result ℕ Refusal) → write_answer p (length out) ≡ r → length (cond (is_ok r) (laid_over file out) out) ≡ length out
    length_by (Ok size) is = laid_length file out (checks (length out) size is).1.0
    length_by (Err e) is = refl

    -- the output keeps its length
    same_length : length (output_after p out) ≡ length out
    same_length = length_by (write_answer p (length out)) refl

    -- the file stands at the front
    file_first : (size : ℕ) → write_answer p (length out) ≡ Ok size → take size (output_after p out) ≡ file
    file_first size is =
        ap (λ r. take size (cond (is_ok r) (laid_over file out) out)) is
        ∙ ap (λ n. take n (laid_over file out)) (checks (length out) size is).1.1
        ∙ take_at file (drop (length file) out) (length file) refl

    module _ (answer : Result ℕ Refusal) (after : List ℕ) (answer_is : answer ≡ write_answer p (length out)) (after_is : after ≡ output_after p out) where
      long : length after ≡ length out
      long = ap length after_is ∙ same_length

      pub written_reads_back : ReadsBack p answer after
      written_reads_back =
          record {
            written = λ fits room. answer_is ∙ accepted (length out) fits (subst (λ n. length file ≤ n) long room);
            read_back = λ size is. let so = sym answer_is ∙ is in
                ap (λ t. program_in (take size t)) after_is ∙ ap program_in (file_first size so) ∙ encoding_read p (storable (length out) size so);
          }

      pub read_writes_back : SameBytes p answer after
      read_writes_back bytes small is room =
          let read = (reads_exactly bytes small p).0 is in
          let same : bytes ≡ file = read.1 in
          let so : write_answer p (length out) ≡ Ok (length file) = accepted (length out) read.0 (omega (arith, ap length same, long, room)) in (
            answer_is ∙ so ∙ ap (λ t. Ok (length t)) (sym same),
            ap (λ t. take (length t) after) same ∙ ap (take (length file)) after_is ∙ file_first (length file) so ∙ sym same,
          )
