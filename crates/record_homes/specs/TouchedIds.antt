-- What a turn touched, as contracts see it.
use Rattle.std.specs.Prelude.{◌≡◌, [], ◌∷◌, Option}
use Rattle.std.specs.declared.cmp.Ordering.TheVariants.{Greater}
use Rattle.union_base.specs.declared.record_id.RecordId.{RecordId}
use Rattle.union_base.specs.RecordIds.{id_cmp}
use Rattle.record_homes.specs.Maps.{MapOf}
use Rattle.record_homes.specs.declared.place.Place.{Place}

-- under each id the place at which its record was loaded, or none, in the order of the ids
pub record TouchedIds : Type 0 where
  pub entries : MapOf (Option Place)

-- the id is greater than each of the others
abbrev pub IsAbove : RecordId → MapOf (Option Place) → Type 0
IsAbove id [] = Unit {0}
IsAbove id (t ∷ touched) = (id_cmp id t.0 ≡ Greater) × IsAbove id touched
