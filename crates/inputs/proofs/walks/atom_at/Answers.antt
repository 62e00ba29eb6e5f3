-- What the chain yields is the list of the inputs that are atoms.
use Rattle.std.proofs.Common.{rules, tests, filter, sym, ap, ◌∙◌}
use Rattle.std.specs.List.{slice_get}
use Rattle.std.proofs.lemmas.Iterator.{YieldsList-from_slice}
use Rattle.std.proofs.lemmas.Iterator.Adapters.{option_map_id}
use Rattle.std.proofs.lemmas.Iterator.Consumers.{nth_from_yields_List, YieldsList-at, YieldsList-from_copied, YieldsList-from_filter}
use Rattle.rules.specs.Program.{within}
use Rattle.inputs.proofs.walks.atom_at.Goals as goal

pub returns : goal.returns
returns c =
    let inputs = c.args.inputs.now in
    let source = YieldsList-at c.filter.ensures.source (YieldsList-from_copied (YieldsList-at c.copied.ensures.source (YieldsList-from_slice inputs cc))) in
    record {
      value = sym (option_map_id c.nth.result)
          ∙ nth_from_yields_List c.nth.result c.nth.new.self c.from.result c.nth.ensures.ran (YieldsList-from_filter _ (within c.args.n) source c.filter.ensures.closure (λ x r q k. search (rules, tests)))
          ∙ ap (slice_get (filter (within c.args.n) inputs)) c.from.ensures;
    }
