use Rattle.std.proofs.Common.{◌∙◌}
use Rattle.std.proofs.lemmas.Result.{IfOk-weaker}
use Rattle.catalogue_core.specs.Histories.{current}
use Rattle.catalogue_query.proofs.KeyLaws.{told-issn}
use Rattle.catalogue_query.proofs.answering.lines_of_issn.Goals as goal

pub returns : goal.returns
returns c =
    IfOk-weaker c.lines_with_key.result _ _
    (λ lines found. (found.0, found.1, found.2 ∙ told-issn c.args.catalogue.now.names (current c.args.catalogue.now.history) found.0 c.args.number.now))
    c.lines_with_key.ensures
