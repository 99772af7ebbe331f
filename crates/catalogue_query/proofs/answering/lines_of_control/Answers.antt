use Rattle.std.proofs.Common.{◌≡◌, map, filter, ap, ◌∙◌}
use Rattle.std.proofs.lemmas.Result.{IfOk-weaker}
use Rattle.match_features.specs.declared.keys.FeatureKey.TheVariants as key
use Rattle.catalogue_core.specs.Histories.{current}
use Rattle.catalogue_core.specs.Ids.{least}
use Rattle.catalogue_core.specs.IndexKeys.{has_key}
use Rattle.catalogue_query.specs.Lines.{edition_line}
use Rattle.catalogue_query.proofs.KeyLaws.{told-control}
use Rattle.catalogue_query.proofs.answering.lines_of_control.Goals as goal

pub returns : goal.returns
returns c =
    let source = c.args.source.now in
    let number = c.args.number.now in
    let same : c.in_ok-pair.pair ≡ (source, number) = c.in_ok-pair.ensures ∙ (λ i. (c.bytes.ensures i, c.bytes-2.ensures i)) in
    IfOk-weaker c.lines_with_key.result _ _
    (λ lines found. (
      found.0,
      found.1,
      found.2 ∙ ap (λ pair. map (λ e. edition_line (least e)) (filter (has_key (key.Control pair)) found.0)) same
          ∙ told-control c.args.catalogue.now.names (current c.args.catalogue.now.history) found.0 source number,
    ))
    c.lines_with_key.ensures
