-- What the loop of `put_all` keeps.
use Rattle.std.proofs.Common.{◌≡◌, drop}
use Rattle.boundary.specs.Copies.{inputs_put}
use Rattle.boundary.proofs.copies.put_all.Given as goal

-- the atoms that are left to put give the answer
abbrev pub invariant-atoms : goal.invariant-atoms
invariant-atoms g l = record {
  below : l.layer.below ≡ l.fn.layer.below;
  put : inputs_put (g.S.RuleSource.meaning l.fn.layer.below) l.layer.inputs.items (drop l.atom-index l.fn.atoms) ≡ inputs_put (g.S.RuleSource.meaning l.fn.layer.below) l.fn.layer.inputs.items l.fn.atoms;
}
