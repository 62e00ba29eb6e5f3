-- The lists are empty.
use Rattle.std.proofs.lemmas.List.{length-replicate}
use Rattle.std.proofs.lemmas.Grind.{merely}
use Rattle.waiting.proofs.Chains.{read_zeros}
use Rattle.waiting.proofs.Linked.{linked_empty}
use Rattle.waiting.proofs.WaitingLists.new.Goals as goal

pub invariant_of-result-clause-next_sized : goal.invariant_of-result-clause-next_sized
invariant_of-result-clause-next_sized g c = length-replicate g.row.PLACES _

pub invariant_of-result-clause-keys_sized : goal.invariant_of-result-clause-keys_sized
invariant_of-result-clause-keys_sized g c = length-replicate g.row.PLACES _

pub invariant_of-result-clause-linked : goal.invariant_of-result-clause-linked
invariant_of-result-clause-linked g c = merely (linked_empty g.row.PLACES 4098)

pub returns : goal.returns
returns g c = record { none = read_zeros g.row.PLACES }
