use Rattle.std.proofs.Common.{ap, ◌∙◌}
use Rattle.std.proofs.lemmas.Result.{IfOk-weaker}
use Rattle.catalogue_core.specs.Catalogues.{CatalogueValue}
use Rattle.gathered_catalogue.proofs.GatherLaws.{editions-from}
use Rattle.gathered_catalogue.proofs.gathered.Gathered.editions.Goals as goal

pub returns : goal.returns
returns g c =
    IfOk-weaker c.resolved_in_order.result _ _
    (λ editions resolved. editions-from c.as_slice.result.now c.in_ok-records.records.items editions.items c.in_ok-records.ensures resolved c.args.self.now.history
    (c.as_slice.ensures.value ∙ ap (λ (v : CatalogueValue). v.history) c.self.view_is))
    c.resolved_in_order.ensures
