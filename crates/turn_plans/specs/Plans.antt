-- Plans: what a turn makes of a catalogue, as far as it is worked out.
use Rattle.std.specs.Prelude.{◌≡◌, ℕ, true, List, [], ◌∷◌, ◌++◌, if◌then◌else◌, filter_map, Option, Some, None}
use Rattle.std.specs.Option.{option_map, option_and_then}
use Rattle.std.specs.List.{AllByRecursion}
use Rattle.std.specs.List.Sorted.{IsStrictlySortedBy}
use Rattle.std.specs.BTreeMap.{is_at}
use Rattle.std.specs.Map.{keys_of, values_of}
use Rattle.union_base.specs.declared.record_id.RecordId.{RecordId}
use Rattle.union_base.specs.RecordIds.{id_cmp}
use Rattle.merge_laws.specs.Resolution.{IsResolution}
use Rattle.swoosh_resolver.specs.Changes.{Fits, view_of}
use Rattle.swoosh_resolver.specs.Splits.{member_at}
use Rattle.swoosh_resolver.specs.declared.change.Place.{Place as Seat}
use Rattle.turn_plans.specs.Histories.{MapOf, at_id}
use Rattle.turn_plans.specs.Homes.{Block}
use Rattle.catalogue_editions.specs.Ids.{has_contributor}
use Rattle.record_homes.specs.Moves.{place_of}
use Rattle.catalogue_editions.specs.Joining.{join}
use Rattle.turn_plans.specs.Keeping.{batches, loaded_at}
use Rattle.catalogue_editions.specs.Matching.{match}
use Rattle.catalogue_editions.specs.declared.batch.Batch.{Batch}
use Rattle.catalogue_editions.specs.declared.edition.Edition.{Edition}
use Rattle.turn_plans.specs.declared.context.Context.{Context}
use Rattle.turn_plans.specs.declared.plan.Plan.{Plan}
use Rattle.record_homes.specs.declared.home.Home.{Home}
use Rattle.record_homes.specs.declared.place.Place.{Place}

-- under each id is the edition of that one record
abbrev pub AreSingle : MapOf Edition → Type 0
AreSingle all = AllByRecursion (λ pair. pair.1.content.contributors ≡ pair.0 ∷ []) all

-- by the plan the records of these editions are current: each is found at its place in the batches, and the view of the change
-- is what they resolve to
pub record IsPlanned (all : List Batch) (homes : MapOf Home) (blocks : List (Option Block)) (editions : MapOf Edition) (closed : List ℕ) (opened : List Block) (touched : MapOf (Option Place)) : Type 0 where
  pub stands : (id : RecordId) → option_map (loaded_at all) (place_of homes touched id) ≡ option_map Some (at_id editions id)
  pub ordered : IsStrictlySortedBy id_cmp (keys_of editions)
  pub single : AreSingle editions
  pub touches : IsStrictlySortedBy id_cmp (keys_of touched)
  pub fits : Fits match blocks closed opened
  pub resolved : IsResolution match join (values_of editions) (view_of blocks closed opened)

-- the batches that had their turn, and the one whose turn it is
abbrev pub batches_with : Context → List Batch
batches_with context = batches context.history.now ++ context.batch.now ∷ []

-- the same of a plan on what stands
abbrev pub IsPlannedOn : Context → MapOf Edition → Plan → Type 0
IsPlannedOn context editions plan = IsPlanned (batches_with context) context.homes.now.entries context.blocks.now.blocks editions plan.change.closed.items plan.change.opened.items plan.touched.entries

-- the edition that was loaded under the id, and none where it is the one that goes
abbrev pub base_beside : List Batch → MapOf Home → MapOf (Option Place) → RecordId → RecordId → Option Edition
base_beside all homes touched gone id = if is_at (id_cmp gone) id then None else option_and_then (loaded_at all) (place_of homes touched id)

-- at that place of the view stands the edition that the record which goes is a contributor of, and the bases are the editions
-- of its other contributors
pub record IsLeft (all : List Batch) (homes : MapOf Home) (blocks : List (Option Block)) (closed : List ℕ) (opened : List Block) (touched : MapOf (Option Place)) (gone : RecordId) (at : Seat) (bases : List Edition) : Type 0 where
  pub block : Block
  pub stands : member_at blocks closed opened at ≡ Some block
  pub bears : has_contributor gone block.value ≡ true
  pub are : bases ≡ filter_map (base_beside all homes touched gone) block.value.content.contributors
