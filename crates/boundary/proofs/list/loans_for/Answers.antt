-- Each loan holds what its lending does.
use Rattle.std.proofs.Common.{rules, tests, ◌≡◌, List, subst}
use Rattle.std.specs.Slice.Iter.{iter_mut_rest, iter_mut_steps}
use Rattle.std.proofs.lemmas.Iterator.{YieldsList, YieldsList-from_map_by}
use Rattle.std.proofs.lemmas.Iterator.Consumers.{YieldsList-from_shown, map_from_collect}
use Rattle.session.specs.Run.{held}
use Rattle.boundary.specs.Lendings.{held_in}
use Rattle.boundary.proofs.list.loans_for.Goals as goal

from_iter_mut : {A : Type 0} → {s : _} (xs : List A) → iter_mut_rest s ≡ xs → YieldsList (iter_mut_steps {A = A}) (λ y. y.now) s xs
from_iter_mut {A} {s} xs e = subst (YieldsList (iter_mut_steps {A = A}) (λ y. y.now) s) e (YieldsList-from_shown iter_mut_steps (λ y. y.now) iter_mut_rest (λ t u h. h.0) (λ t x u h. h) s)

pub returns : goal.returns
returns c = record {
  value = map_from_collect c.collect.result c.collect.ensures.ran (YieldsList-from_map_by _ held held_in (from_iter_mut c.args.lendings.now cc) c.map.ensures.closure (λ x r q k. search (rules, tests)));
}
