-- The end is written after the rules.
use Rattle.std.proofs.Common.{ap, ◌∙◌, arith, rules}
use Rattle.program.specs.Encoding.{end_bytes}
use Rattle.writer.specs.Writing.{laid_over, before_end}
use Rattle.writer.proofs.Bytes.{room_at, room_there, laid_there}
use Rattle.writer.proofs.Files.{before_and_end, end_length}
use Rattle.writer.proofs.write_file.Goals as goal

pub slice_bounds-write_end-count : goal.slice_bounds-write_end-count
slice_bounds-write_end-count g c =
    let p = g.S.RuleSource.meaning c.args.source.now in
    let done = c.write_rules-at in
    omega (arith, room_at (before_end p) end_bytes c.args.out.now done.new.out done.result done.ensures.value done.ensures.after (omega (arith, end_length p, c.requires.room)))

pub slice_bounds-write_end-start : goal.slice_bounds-write_end-start
slice_bounds-write_end-start g c =
    let p = g.S.RuleSource.meaning c.args.source.now in
    let done = c.write_rules-at in
    let room = room_at (before_end p) end_bytes c.args.out.now done.new.out done.result done.ensures.value done.ensures.after (omega (arith, end_length p, c.requires.room)) in
    search rules

pub write_end-requires : goal.write_end-requires
write_end-requires g c =
    let p = g.S.RuleSource.meaning c.args.source.now in
    let done = c.write_rules-at in
    record { room = room_there (before_end p) end_bytes c.args.out.now done.new.out done.result done.ensures.value done.ensures.after (omega (arith, end_length p, c.requires.room)) }

pub returns : goal.returns
returns g c =
    let p = g.S.RuleSource.meaning c.args.source.now in
    let done = c.write_rules-at in
    record {
      after = laid_there (before_end p) end_bytes c.args.out.now done.new.out done.result done.ensures.value done.ensures.after (omega (arith, end_length p, c.requires.room)) c.write_end.new.out c.write_end.ensures.after
          ∙ ap (λ t. laid_over t c.args.out.now) (before_and_end p);
    }
