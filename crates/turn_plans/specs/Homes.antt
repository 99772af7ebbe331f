-- Where the current records of a catalogue are found.
use Rattle.std.specs.Prelude.{◌≡◌, ℕ, IsTrue, List, Option, Some}
use Rattle.union_base.specs.declared.record_id.RecordId.{RecordId}
use Rattle.swoosh_resolver.specs.Tables.{Entry, block_at}
use Rattle.turn_plans.specs.Histories.{MapOf, at_id}
use Rattle.turn_plans.specs.Keeping.{map_values}
use Rattle.catalogue_editions.specs.Ids.{has_contributor}
use Rattle.catalogue_editions.specs.declared.edition.Edition.{Edition}
use Rattle.record_homes.specs.declared.home.Home.{Home}
use Rattle.record_homes.specs.declared.place.Place.{Place}

-- an edition as a block
abbrev pub Block : Type 0
Block = Entry Edition ℕ

-- the places at which the records were loaded
abbrev pub places_in : MapOf Home → MapOf Place
places_in homes = map_values (λ home. home.place) homes

-- the block of each record has it among its contributors, and each contributor of a block is a record whose block this is
pub record AreHoused (blocks : List (Option Block)) (homes : MapOf Home) : Type 0 where
  pub each : (id : RecordId) (home : Home) → at_id homes id ≡ Some home → (e : Block) × (block_at blocks home.block ≡ Some e) × IsTrue (has_contributor id e.value)
  pub only : (number : ℕ) (e : Block) (id : RecordId) → block_at blocks number ≡ Some e → IsTrue (has_contributor id e.value) → (home : Home) × (at_id homes id ≡ Some home) × (home.block ≡ number)
