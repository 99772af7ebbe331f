use Rattle.std.proofs.Common.{◌++◌, ◌∷◌, [], length, ap, ◌∙◌}
use Rattle.catalogue_core.proofs.SameEditions.{same_editions_of}
use Rattle.catalogue_query.specs.Answers.{work_keys}
use Rattle.catalogue_query.specs.Lines.{count_line}
use Rattle.catalogue_query.proofs.WorkLaws.{length-works}
use Rattle.catalogue_query.proofs.answering.count_lines.Goals as goal

pub returns : goal.returns
returns c =
    let counted = c.edition_count-editions.ensures in
    let listing = c.in_ok-works.ensures in
    let works =
    listing.2 ∙ length-works c.args.catalogue.now.names listing.0
    ∙ ap (λ all. length (work_keys c.args.catalogue.now.names all)) (same_editions_of c.args.catalogue.now.history listing.0 counted.0 listing.1 counted.1) in
    let records = c.record_count-records.ensures in (
      counted.0,
      counted.1,
      c.in_ok-push.ensures.items ∙ ap (λ l. l ++ c.in_ok-count_line.field-0 ∷ []) c.in_ok-lines.ensures.items
          ∙ ap (λ line. line ∷ []) (c.in_ok-count_line.ensures ∙ (λ i. count_line (counted.2 i) (works i) (records i))),
    )
