-- Where in a history the current records were loaded.
use Rattle.std.specs.Prelude.{◌≡◌, List, map, Option, Some, None, slice_get}
use Rattle.std.specs.Option.{option_and_then}
use Rattle.turn_plans.specs.Histories.{MapOf}
use Rattle.catalogue_editions.specs.declared.edition.Edition.{Edition}
use Rattle.catalogue_editions.specs.declared.op.Op.{Op}
use Rattle.catalogue_editions.specs.declared.op.Op.TheVariants.{Load, Withdraw}
use Rattle.catalogue_editions.specs.declared.batch.Batch.{Batch}
use Rattle.catalogue_editions.specs.declared.history_entry.HistoryEntry.{HistoryEntry}
use Rattle.record_homes.specs.declared.place.Place.{Place}

-- the batches of a history, in order
abbrev pub batches : List HistoryEntry → List Batch
batches history = map (λ turn. turn.batch) history

-- the edition that an operation loads
abbrev pub loaded : Op → Option Edition
loaded (Load e) = Some e
loaded (Withdraw number) = None

-- the edition that the operation at the place loads
abbrev pub loaded_at : List Batch → Place → Option Edition
loaded_at all place = option_and_then (λ batch. option_and_then loaded (slice_get batch.ops place.op)) (slice_get all place.turn)

-- the same ids with what f makes of their values
abbrev pub map_values : {X Y : Type 0} → (X → Y) → MapOf X → MapOf Y
map_values f all = map (λ pair. (pair.0, f pair.1)) all

-- the places are those, in the batches, at which the editions were loaded, under the same ids
pub record StandFor (all : List Batch) (places : MapOf Place) (editions : MapOf Edition) : Type 0 where
  pub loads : map_values (loaded_at all) places ≡ map_values Some editions
