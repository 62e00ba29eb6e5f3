-- A new input finds room, and its fact comes after the rules.
use Rattle.std.proofs.lemmas.Grind.{common_steps}
use Rattle.std.proofs.Common.{arith, ◌≡◌, true, false, Ok, sym, ap, ◌∙◌}
use Rattle.rules.specs.Program.{within}
use Rattle.rules.specs.Tests.{member}
use Rattle.inputs.specs.Layer.{with_inputs, room_checked}
use Rattle.inputs.proofs.Added.{put_listed}
use Rattle.inputs.proofs.Inputs.put.Goals as goal

pub returns-clause-listed : goal.returns-clause-listed
returns-clause-listed g c =
    let self = c.args.self.now in
    let p = g.S.RuleSource.meaning self.below in
    let inputs = self.inputs.items in
    let a = c.args.atom in
    let atom : within p.atoms a ≡ true = sym (c.if-not-is_within.ensures.value ∙ ap (λ n. within n a) c.atoms.ensures.value) in
    let apart : member a inputs ≡ false = grind (arith, common_steps) in
    let room : room_checked p inputs ≡ Ok tt = sym c.in_ok-check_room.ensures.value in
    ap (with_inputs p) c.push.ensures.items ∙ put_listed p inputs a atom apart room
