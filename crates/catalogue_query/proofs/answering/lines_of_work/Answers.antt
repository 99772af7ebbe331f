use Rattle.std.proofs.Common.{◌≡◌, map, ap, ◌∙◌}
use Rattle.std.proofs.lemmas.Result.{IfOk-weaker}
use Rattle.work_clusters.specs.Works.{ids_under, works_of}
use Rattle.record_editions.specs.EditionKeys.{work_pairs}
use Rattle.catalogue_core.specs.Histories.{current}
use Rattle.catalogue_query.specs.Lines.{edition_line}
use Rattle.catalogue_query.proofs.WorkLaws.{told-work}
use Rattle.catalogue_query.proofs.answering.lines_of_work.Goals as goal

pub returns : goal.returns
returns c =
    let listing = c.in_ok-grouping.ensures in
    let listed : c.works-2.result.now.works ≡ works_of (work_pairs c.args.catalogue.now.names listing.0) = c.works-2.ensures ∙ listing.2 in
    let key = c.args.key.now in
    IfOk-weaker c.edition_lines.result _ _ (λ lines same. (
      listing.0,
      listing.1,
      same ∙ ap (map edition_line) (c.editions_of.ensures ∙ ap (λ works. ids_under works key) listed) ∙ told-work c.args.catalogue.now.names key (current c.args.catalogue.now.history) listing.0 listing.1.ascending,
    )) c.edition_lines.ensures
