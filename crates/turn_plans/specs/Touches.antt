-- What a turn makes of where records are found.
use Rattle.std.specs.Prelude.{◌≡◌, List, Option, Some}
use Rattle.std.specs.Option.{option_map}
use Rattle.union_base.specs.declared.record_id.RecordId.{RecordId}
use Rattle.std.specs.List.Sorted.{IsStrictlySortedBy}
use Rattle.std.specs.Map.{keys_of}
use Rattle.union_base.specs.RecordIds.{id_cmp}
use Rattle.turn_plans.specs.Histories.{MapOf, at_id}
use Rattle.record_homes.specs.Moves.{place_of}
use Rattle.turn_plans.specs.Keeping.{loaded_at}
use Rattle.turn_plans.specs.Plans.{AreSingle}
use Rattle.catalogue_editions.specs.declared.batch.Batch.{Batch}
use Rattle.catalogue_editions.specs.declared.edition.Edition.{Edition}
use Rattle.record_homes.specs.declared.home.Home.{Home}
use Rattle.record_homes.specs.declared.place.Place.{Place}

-- the records of these editions are current: each is found at its place in the batches
pub record IsTouched (all : List Batch) (homes : MapOf Home) (editions : MapOf Edition) (touched : MapOf (Option Place)) : Type 0 where
  pub stands : (id : RecordId) → option_map (loaded_at all) (place_of homes touched id) ≡ option_map Some (at_id editions id)
  pub ordered : IsStrictlySortedBy id_cmp (keys_of editions)
  pub single : AreSingle editions
  pub touches : IsStrictlySortedBy id_cmp (keys_of touched)
