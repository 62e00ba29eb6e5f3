-- The first item of the list is taken, where there is one.
use Rattle.std.proofs.Common.{◌≡◌, Some, None, ◌∙◌, arith, rules}
use Rattle.std.proofs.lemmas.List.{length-set}
use Rattle.waiting.specs.Waiting.{first_under}
use Rattle.waiting.proofs.Taking.{first_is_held, linked_without_first, none_is_held}
use Rattle.waiting.proofs.WaitingLists.take.Goals as goal

pub returns-in_err-item-clause-none : goal.returns-in_err-item-clause-none
returns-in_err-item-clause-none g c none =
    let missing : first_under c.args.self.now c.args.key ≡ None = search rules in
    none_is_held c.args.self.now c.args.key missing

pub bounds-self-place : goal.bounds-self-place
bounds-self-place g c =
    let found : first_under c.args.self.now c.args.key ≡ Some c.in_ok-item.item = search rules in
    omega (arith, c.from-place.ensures, (first_is_held c.args.self.now c.args.key c.in_ok-item.item found).2)

pub bounds-self-place-2 : goal.bounds-self-place-2
bounds-self-place-2 g c =
    let found : first_under c.args.self.now c.args.key ≡ Some c.in_ok-item.item = search rules in
    omega (arith, c.from-place.ensures, (first_is_held c.args.self.now c.args.key c.in_ok-item.item found).2)

pub invariant_of-self : goal.invariant_of-self
invariant_of-self g c =
    let lists = c.args.self.now in
    let found : first_under lists c.args.key ≡ Some c.in_ok-item.item = search rules in
    record {
      first_sized = length-set lists.first _ _ ∙ lists.first_sized;
      next_sized = lists.next_sized;
      keys_sized = length-set lists.keys _ _ ∙ lists.keys_sized;
      linked = rw (c.from-place.ensures, c.from.ensures) (linked_without_first lists c.args.key c.in_ok-item.item found);
    }

pub returns-clause-held : goal.returns-clause-held
returns-clause-held g c item is =
    let found : first_under c.args.self.now c.args.key ≡ Some item = search rules in
    first_is_held c.args.self.now c.args.key item found
