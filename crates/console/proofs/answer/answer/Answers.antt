-- What is answered is what is defined, and by that definition only stable files are accepted.
use Rattle.std.proofs.Common.{sym, ap, ◌∙◌}
use Rattle.program_file.specs.File.{program_read}
use Rattle.records.proofs.Encoded.{bytes_from_fits}
use Rattle.console.specs.Answer.{by_program}
use Rattle.console.proofs.Files.{accepts_only_stable}
use Rattle.console.proofs.answer.answer.Goals as goal

pub returns-in-Ok-clause-accepted_is_stable : goal.returns-in-Ok-clause-accepted_is_stable
returns-in-Ok-clause-accepted_is_stable c m e =
    let program = c.args.program.now in
    let certificate = c.args.certificate.now in
    let is = c.answer_over.ensures.value ∙ ap (by_program certificate) (sym (ap program_read c.in-Ok.is) ∙ c.read.ensures.value) in
    accepts_only_stable program certificate (bytes_from_fits program c.type_inv.program) (bytes_from_fits certificate c.type_inv.certificate) m (sym is ∙ e)
