use Rattle.std.proofs.Common.{map, filter, ap, ◌∙◌}
use Rattle.std.proofs.lemmas.Result.{IfOk-weaker}
use Rattle.match_features.specs.declared.keys.FeatureKey.TheVariants as key
use Rattle.catalogue_core.specs.Histories.{current}
use Rattle.catalogue_core.specs.Ids.{least}
use Rattle.catalogue_core.specs.IndexKeys.{has_key}
use Rattle.catalogue_query.specs.Lines.{edition_line}
use Rattle.catalogue_query.proofs.KeyLaws.{told-title}
use Rattle.catalogue_query.proofs.answering.lines_of_title.Goals as goal

pub returns : goal.returns
returns c =
    let form = c.args.form.now in
    IfOk-weaker c.lines_with_key.result _ _
    (λ lines found. (
      found.0,
      found.1,
      found.2 ∙ ap (λ title. map (λ e. edition_line (least e)) (filter (has_key (key.Title title)) found.0)) c.in_ok-copied.ensures
          ∙ told-title c.args.catalogue.now.names (current c.args.catalogue.now.history) found.0 form,
    ))
    c.lines_with_key.ensures
