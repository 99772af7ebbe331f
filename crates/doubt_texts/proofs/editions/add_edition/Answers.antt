use Rattle.std.proofs.Common.{◌<◌, ◌++◌, length, ap, ◌∙◌, arith}
use Rattle.std.specs.Prelude.{find}
use Rattle.std.proofs.lemmas.Grind.{common_steps}
use Rattle.edition_doubts.specs.DoubtfulSteps.{is_doubtful_step}
use Rattle.doubt_texts.specs.Editions.{told_line}
use Rattle.doubt_texts.proofs.ListingLaws.{edition-added}
use Rattle.doubt_texts.proofs.editions.add_edition.Goals as goal

pub returns : goal.returns
returns c =
    let edition = c.args.edition.now in
    let members = c.args.members.now in
    let doubts = c.args.doubts.now in
    let some : 0 < length doubts = grind (arith, common_steps, c.is_empty.ensures, c.if-is_empty.false) in
    edition-added c.args.form edition members doubts some c.in_ok-steps.steps.items c.in_ok-steps.ensures c.args.text.now.items
    c.add_told.new.text.items
    (c.in_ok-add_told.ensures
    ∙ ap (λ step. c.args.text.now.items ++ told_line c.args.form edition doubts step)
    (c.in_ok-step.ensures ∙ ap (find (is_doubtful_step members)) c.as_slice.ensures.value))
