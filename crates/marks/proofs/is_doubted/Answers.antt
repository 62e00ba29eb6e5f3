-- An atom past the end has no byte.
use Rattle.std.proofs.Common.{arith}
use Rattle.std.proofs.lemmas.Bool.Decides.{nat_tests}
use Rattle.std.proofs.lemmas.Grind.{common_steps}
use Rattle.std.proofs.lemmas.List.{get_or_past}
use Rattle.std.proofs.lemmas.Option.{gets}
use Rattle.marks.proofs.is_doubted.Goals as goal

pub returns : goal.returns
returns c = grind (arith, common_steps, nat_tests, gets, get_or_past, c.is_some_and.ensures)
