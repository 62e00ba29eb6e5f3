-- A plan that is judged has a known kind of levels.
use Rattle.program.specs.Reading.{program_in}
use Rattle.checklist.proofs.Judged.{judged_kind_known}
use Rattle.checklist.proofs.look.Goals as goal

pub returns-in_err-kind : goal.returns-in_err-kind
returns-in_err-kind c = absurd (judged_kind_known c.args.certificate.now c.in_ok-verdict.verdict c.in_err-kind.field-0.0 c.in_ok-atoms_in.field-0 (program_in c.args.program.now) c.in_ok-atoms_in.ensures.value c.in_err-kind.ensures.value c.in_ok-verdict.ensures.value)
