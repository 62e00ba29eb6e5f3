use Rattle.std.proofs.Common.{◌≡◌, true, false, length, replicate, is_ok, sym, ap, ◌∙◌, None}
use Rattle.certificate.specs.Reading.{claims_in}
use Rattle.survey.specs.Making.{fitting, claims_for, claims_or_none, with_claims, with_levels, made_marks, made_entries}
use Rattle.survey.proofs.Allowed.{made_with, made_without}
use Rattle.survey.proofs.Made.{made_as, made_for}
use Rattle.survey.proofs.making.make_from.Goals as goal

pub returns-then-is_ok : goal.returns-then-is_ok
returns-then-is_ok g c =
    let level = g.L.StoredLevel in
    let n = (g.S.RuleSource.meaning c.args.source.now).atoms in
    let certificate = c.args.certificate.now in
    let marks = length c.args.marks.now in
    let entries = length c.args.levels.now.entries.now in
    let ok : is_ok c.can_make_from-answer.result ≡ true = sym c.is_ok.ensures.value ∙ c.if-is_ok.true in
    let same = made_with (fitting n marks entries) (claims_in level.WIDTH level.decode n level.KIND certificate)
    c.can_make_from-answer.result c.can_make_from-answer.ensures.value ok in
    let marks_so = c.put_claims.ensures.marks
    ∙ ap (λ m. with_claims m (claims_or_none (claims_in level.WIDTH level.decode c.atoms.result level.KIND certificate))) c.make.ensures.marks
    ∙ ap (λ a. with_claims (replicate marks 0) (claims_or_none (claims_in level.WIDTH level.decode a level.KIND certificate))) c.atoms.ensures.value
    ∙ ap (λ r. with_claims (replicate marks 0) (claims_or_none r)) same in
    let entries_so = c.put_claims.ensures.entries
    ∙ ap (λ e. with_levels e (claims_or_none (claims_in level.WIDTH level.decode c.atoms.result level.KIND certificate))) c.make.ensures.entries
    ∙ ap (λ a. with_levels (replicate entries None) (claims_or_none (claims_in level.WIDTH level.decode a level.KIND certificate))) c.atoms.ensures.value
    ∙ ap (λ r. with_levels (replicate entries None) (claims_or_none r)) same in
    record {
      marks = marks_so;
      entries = entries_so;
      claimed = made_as (made_for level.WIDTH level.decode n level.KIND certificate marks entries) marks_so entries_so;
      named = c.put_claims.ensures.named ∙ c.make.ensures.named;
    }

pub returns-else-is_ok : goal.returns-else-is_ok
returns-else-is_ok g c =
    let level = g.L.StoredLevel in
    let n = (g.S.RuleSource.meaning c.args.source.now).atoms in
    let certificate = c.args.certificate.now in
    let marks = length c.args.marks.now in
    let entries = length c.args.levels.now.entries.now in
    let refused : is_ok c.can_make_from-answer.result ≡ false = sym c.is_ok.ensures.value ∙ c.if-is_ok.false in
    let none = made_without (claims_for level.WIDTH level.decode n level.KIND marks entries certificate) c.can_make_from-answer.result c.can_make_from-answer.ensures.value refused in
    let marks_so = c.make.ensures.marks ∙ ap (made_marks marks) (sym none) in
    let entries_so = c.make.ensures.entries ∙ ap (made_entries entries) (sym none) in
    record {
      marks = marks_so;
      entries = entries_so;
      claimed = made_as (made_for level.WIDTH level.decode n level.KIND certificate marks entries) marks_so entries_so;
      named = c.make.ensures.named;
    }
