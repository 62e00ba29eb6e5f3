-- Bytes laid over an output one after the other. Assumes nothing.
use Rattle.std.proofs.Common.{◌≡◌, ℕ, ◌+◌, ◌-◌, ◌≤◌, List, [], ◌++◌, length, take, drop, sym, refl, ap, ◌∙◌, arith, length-drop, length-take}
use borrow.Rule.Slice.PartMut.{put_mid}
use Rattle.std.proofs.lemmas.List.{append_assoc, append-nil, take_at, take_rest, drop_at, drop-drop, drop_all, length-append}
use Rattle.writer.specs.Writing.{laid_over}

module _ (a b out : List ℕ) where
  -- bytes laid over what follows those that were laid before
  pub laid_next : take (length a) (laid_over a out) ++ laid_over b (drop (length a) (laid_over a out)) ≡ laid_over (a ++ b) out
  laid_next =
      let rest = drop (length a) out in
      ap (λ t. t ++ laid_over b (drop (length a) (laid_over a out))) (take_at a rest (length a) refl)
      ∙ ap (λ t. a ++ laid_over b t) (drop_at a rest (length a) refl)
      ∙ sym (append_assoc a b (drop (length b) rest))
      ∙ ap (λ t. (a ++ b) ++ t) (drop-drop (length b) (length a) out)
      ∙ ap (λ n. (a ++ b) ++ drop n out) (sym (length-append a b))

-- bytes over an output that has room for them leave its length
pub laid_length : (a out : List ℕ) → length a ≤ length out → length (laid_over a out) ≡ length out
laid_length a out room = length-append a (drop (length a) out) ∙ omega (arith, length-drop (length a) out, room)

-- bytes over what begins with the first of them are as if it did not
pub laid_again : (a b out : List ℕ) → laid_over (a ++ b) (laid_over a out) ≡ laid_over (a ++ b) out
laid_again a b out =
    let skipped : drop (length a + length b) (laid_over a out) ≡ drop (length a + length b) out =
    sym (drop-drop (length b) (length a) (laid_over a out)) ∙ ap (drop (length b)) (drop_at a (drop (length a) out) (length a) refl) ∙ drop-drop (length b) (length a) out in
    ap (λ n. (a ++ b) ++ drop n (laid_over a out)) (length-append a b) ∙ ap (λ t. (a ++ b) ++ t) skipped ∙ ap (λ n. (a ++ b) ++ drop n out) (sym (length-append a b))

-- more bytes written at the place where those before them end, in the part of the output that begins there
module _ (done more out now : List ℕ) (at : ℕ) (at_is : at ≡ length done) (now_is : now ≡ laid_over done out) (room : length done + length more ≤ length out) where
  long : length now ≡ length out
  long = ap length now_is ∙ laid_length done out (omega (arith, room))

  abbrev there : List ℕ
  there = take (length now - at) (drop at now)

  pub room_at : at + length more ≤ length now
  room_at = omega (arith, long, at_is, room)

  pub room_there : length more ≤ length there
  room_there = simp (length-take, length-drop) (omega (arith, room_at))

  pub laid_there : (part : List ℕ) → part ≡ laid_over more there → put_mid at (length now - at) now part ≡ laid_over (done ++ more) out
  laid_there part part_is =
      let none : drop (length now - at) (drop at now) ≡ [] = drop_all (length now - at) (drop at now) (simp length-drop (omega arith)) in
      ap (λ t. take at now ++ (part ++ t)) none
      ∙ ap (λ t. take at now ++ t) (append-nil part ∙ part_is ∙ ap (laid_over more) (take_rest now at))
      ∙ ap (λ n. take n now ++ laid_over more (drop n now)) at_is
      ∙ ap (λ t. take (length done) t ++ laid_over more (drop (length done) t)) now_is
      ∙ laid_next done more out
