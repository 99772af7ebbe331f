-- What is counted of a catalogue.
use Rattle.std.specs.Prelude.{◌≡◌, List, length}
use Rattle.authority_names.specs.Leads.{Table}
use Rattle.work_clusters.specs.Works.{works_of}
use Rattle.catalogue_core.specs.EditionKeys.{work_pairs}
use Rattle.catalogue_core.specs.Histories.{bases, AreEditionsOf}
use Rattle.catalogue_editions.specs.declared.edition.Edition.{Edition}
use Rattle.catalogue_editions.specs.declared.history_entry.HistoryEntry.{HistoryEntry}
use Rattle.catalogue_export.specs.Editions.{export_text}
use Rattle.union_trial.specs.declared.measures.Measures.{Measures}

-- the numbers are those of the catalogue of that history, by these names: its current records, its editions, their works, the bytes of the
-- export
pub record AreMeasured (names : Table) (history : List HistoryEntry) (m : Measures) : Type 0 where
  pub all : List Edition
  pub are : AreEditionsOf history all
  pub records : m.records ≡ length (bases history)
  pub editions : m.editions ≡ length all
  pub works : m.works ≡ length (works_of (work_pairs names all))
  pub bytes : m.bytes ≡ length (export_text names all)
