-- The questions that find a place are put there.
use Rattle.std.proofs.Common.{◌-◌, length, map, min, sym, ap, ◌∙◌}
use Rattle.std.proofs.lemmas.List.{length-map, take-map}
use Rattle.boundary.specs.Lendings.{ask_told}
use Rattle.boundary.proofs.Over.{put_over}
use Rattle.boundary.proofs.list.put_asks.Goals as goal

pub returns-clause-after : goal.returns-clause-after
returns-clause-after c =
    let asks = c.args.asks.now in
    let many = c.min-many.result in
    put_over (map ask_told asks) c.args.codes.now c.tell_each.new.codes c.args.from many
    (c.min-many.ensures ∙ ap (λ n. min n (length c.args.codes.now - c.args.from)) (sym (length-map asks ask_told)))
    (c.tell_each.ensures.after ∙ sym (take-map ask_told many asks))
