-- The records that are collected from a gathered catalogue.
use Rattle.std.specs.Prelude.{◌≡◌, ◌⊎◌, ℕ, List, Some, Contains}
use Rattle.record_homes.specs.declared.place.Place.{Place}
use Rattle.catalogue_editions.specs.declared.batch.Batch.{Batch}
use Rattle.catalogue_editions.specs.declared.edition.Edition.{Edition}
use Rattle.turn_plans.specs.Keeping.{loaded_at}
use Rattle.gathered_catalogue.specs.Tables.{Rows, row_at}

-- the new list has the editions of the old one and those that the batches load at the places in the rows, and no others
pub record GainsLoads (all : List Batch) (rows : Rows) (old new : List Edition) : Type 0 where
  pub kept : (e : Edition) → Contains old e → Contains new e
  pub every : (control : List ℕ) (place : Place) (e : Edition) → row_at rows control ≡ Some place → loaded_at all place ≡ Some e → Contains new e
  pub only : (e : Edition) → Contains new e → Contains old e ⊎ ((control : List ℕ) × (place : Place) × (row_at rows control ≡ Some place) × (loaded_at all place ≡ Some e))
