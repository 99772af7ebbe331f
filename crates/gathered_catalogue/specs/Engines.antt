-- A catalogue in each of its forms, and a batch in each of its own, as the values that contracts see.
use Rattle.catalogue_core.specs.Catalogues.{CatalogueValue}
use Rattle.catalogue_editions.specs.declared.batch.Batch.{Batch}
use Rattle.gathered_catalogue.specs.declared.change.ChangeKind.{ChangeKind}
use Rattle.gathered_catalogue.specs.declared.change.ChangeKind.TheVariants.{Plain, Prepared}
use Rattle.gathered_catalogue.specs.declared.engine.Kind.{Kind}
use Rattle.gathered_catalogue.specs.declared.engine.Kind.TheVariants.{Standing, Gathered}
use Rattle.gathered_catalogue.specs.declared.finished.FinishedKind.{FinishedKind}
use Rattle.gathered_catalogue.specs.declared.finished.FinishedKind.TheVariants.{Standing as FinishedStanding, Resolved}

-- the batch, prepared or not
abbrev pub batch_of : ChangeKind → Batch
batch_of (Plain batch) = batch
batch_of (Prepared batch) = batch

-- the history and the names, whether the catalogue stands or is gathered
abbrev pub value_of : Kind → CatalogueValue
value_of (Standing catalogue) = catalogue
value_of (Gathered catalogue) = catalogue

-- the same when all is loaded
abbrev pub finished_value : FinishedKind → CatalogueValue
finished_value (FinishedStanding catalogue) = catalogue
finished_value (Resolved catalogue) = catalogue
