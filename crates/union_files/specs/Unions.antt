-- The union catalogue of what libraries deliver.
use Rattle.std.specs.Prelude.{◌≡◌, List, map, Contains}
use Rattle.std.specs.List.{list_any}
use Rattle.authority_names.specs.Leads.{Table}
use Rattle.catalogue_core.specs.Histories.{AreEditionsOf}
use Rattle.catalogue_editions.specs.declared.edition.Edition.{Edition}
use Rattle.catalogue_editions.specs.declared.history_entry.HistoryEntry.{HistoryEntry}
use Rattle.union_files.specs.Deliveries.{Delivery, Stream, delivered, batches_of, reports_of, has_refused}
use Rattle.union_files.specs.Interleavings.{IsInterleaving}
use Rattle.union_files.specs.declared.loaded.Loaded.{Loaded}

-- these are the deliveries with their batches, and the editions of a catalogue whose history has all of these batches, each
-- library's in their order, and no others
pub record IsUnion (all : List Delivery) (streams : List Stream) (editions : List Edition) : Type 0 where
  pub delivered : map delivered streams ≡ all
  pub history : List HistoryEntry
  pub interleaving : IsInterleaving (map batches_of streams) history
  pub resolved : AreEditionsOf history editions

-- the same deliveries, in whatever order
pub record AreSameDeliveries (all other : List Delivery) : Type 0 where
  pub there : (d : Delivery) → Contains all d → Contains other d
  pub back : (d : Delivery) → Contains other d → Contains all d

-- the batches of the deliveries were applied, and no others, and the reports are theirs
pub record HasLoaded (all : List Delivery) (loaded : Loaded) : Type 0 where
  pub streams : List Stream
  pub delivered : map delivered streams ≡ all
  pub interleaving : IsInterleaving (map batches_of streams) loaded.catalogue.history
  pub reports : loaded.reports.items ≡ reports_of streams

-- they make a union, by these names, and it is told whether a frame is refused
pub record HasUnited (names : Table) (all : List Delivery) (loaded : Loaded) : Type 0 where
  pub names_are : loaded.catalogue.names ≡ names
  pub refused : loaded.refused ≡ list_any has_refused all
  pub union : HasLoaded all loaded
