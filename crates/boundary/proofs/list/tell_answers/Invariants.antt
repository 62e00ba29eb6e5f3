-- What the loop of `tell_answers` keeps.
use Rattle.std.proofs.Common.{◌≡◌, drop, map, take}
use Rattle.boundary.specs.Answers.{maybe_told}
use Rattle.boundary.proofs.list.tell_answers.Given as goal

-- the answers before this place are told, and those from it on are as they were
abbrev pub invariant-answers : goal.invariant-answers
invariant-answers l = record {
  told : take l.at l.answers ≡ map (λ k. maybe_told k.answer) (take l.at l.loans);
  rest : drop l.at l.answers ≡ drop l.at l.fn.answers;
}
