use Rattle.std.proofs.Common.{ap}
use Rattle.catalogue_core.specs.Catalogues.{CatalogueValue}
use Rattle.turn_plans.proofs.PartsLaws.{one-reach}
use Rattle.catalogue_core.proofs.catalogue.Catalogue.apply_prepared.Goals as goal

pub returns-in_err-plan-clause-reach : goal.returns-in_err-plan-clause-reach
returns-in_err-plan-clause-reach g c = λ parts reach is r.
    (rw c.deref.ensures.value at c.planned_parts.ensures.cost) reach
    (one-reach c.args.prepared c.into_parts-batch.result.0 c.into_parts-batch.result.1.items parts c.args.self.now.history c.self.inside.history.items reach c.into_parts-batch.ensures.batch
    (ap (λ (v : CatalogueValue). v.history) c.self.view_is) c.into_parts-batch.ensures.parts is r)

pub returns-in_err-install-clause-reach : goal.returns-in_err-install-clause-reach
returns-in_err-install-clause-reach g c = λ parts reach is r.
    (rw c.deref.ensures.value at c.planned_parts.ensures.cost) reach
    (one-reach c.args.prepared c.into_parts-batch.result.0 c.into_parts-batch.result.1.items parts c.args.self.now.history c.self.inside.history.items reach c.into_parts-batch.ensures.batch
    (ap (λ (v : CatalogueValue). v.history) c.self.view_is) c.into_parts-batch.ensures.parts is r)

pub returns-clause-reach : goal.returns-clause-reach
returns-clause-reach g c = λ parts reach is r.
    (rw c.deref.ensures.value at c.planned_parts.ensures.cost) reach
    (one-reach c.args.prepared c.into_parts-batch.result.0 c.into_parts-batch.result.1.items parts c.args.self.now.history c.self.inside.history.items reach c.into_parts-batch.ensures.batch
    (ap (λ (v : CatalogueValue). v.history) c.self.view_is) c.into_parts-batch.ensures.parts is r)
