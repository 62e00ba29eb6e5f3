-- An item stands first under a key exactly where some item waits there.
use Rattle.std.proofs.Common.{is_some, ap, ◌∙◌}
use Rattle.waiting.proofs.Taking.{any_from_first}
use Rattle.waiting.proofs.WaitingLists.has.Goals as goal

pub returns : goal.returns
returns g c = record { value = c.is_some.ensures ∙ ap is_some c.first_under.ensures.value ∙ any_from_first c.args.self.now c.args.key }
