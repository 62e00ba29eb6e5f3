-- The item becomes the first of its list.
use Rattle.std.proofs.Common.{sym, ◌∙◌}
use Rattle.std.proofs.lemmas.List.{length-set}
use Rattle.std.proofs.Math.Logic.{∥∥₁_map}
use Rattle.waiting.specs.Waiting.{key_of}
use Rattle.waiting.proofs.Counts.{free_parts}
use Rattle.waiting.proofs.Linked.{linked_added}
use Rattle.waiting.proofs.WaitingLists.add.Goals as goal

pub invariant_of-self : goal.invariant_of-self
invariant_of-self g c =
    let lists = c.args.self.now in
    let parts = free_parts g.row.PLACES (key_of lists) c.args.item c.args.key (sym c.if-is_free.ensures.value) in
    record {
      first_sized = length-set lists.first _ _ ∙ lists.first_sized;
      next_sized = length-set lists.next _ _ ∙ lists.next_sized;
      keys_sized = length-set lists.keys _ _ ∙ lists.keys_sized;
      linked =
          rw (c.from-place.ensures, c.from.ensures, c.from-then-is_free.ensures)
          (∥∥₁_map lists.linked (λ linked. linked_added g.row.PLACES lists.first lists.next lists.keys lists.first_sized lists.keys_sized linked c.args.key parts.2 parts.3 lists.next_sized c.args.item parts.0 parts.1 parts.4));
    }
