-- What the applying of a library's batches, and its report, say.
use Rattle.std.specs.Prelude.{◌≡◌, ℕ, Bool, List, [], ◌++◌, length}
use Rattle.catalogue_core.specs.Histories.{current}
use Rattle.catalogue_editions.specs.declared.batch.Batch.{Batch}
use Rattle.catalogue_editions.specs.declared.history_entry.HistoryEntry.{HistoryEntry}
use Rattle.library_batches.specs.Batches.{AreBatches}
use Rattle.library_batches.specs.Outcomes.{AreCounted, found_in}
use Rattle.library_batches.specs.Reading.{Batching}
use Rattle.library_batches.specs.Refused.{refused}
use Rattle.library_batches.specs.Streams.{Frame}
use Rattle.union_script.specs.Notices.{TellsTurns}
use Rattle.union_script.specs.Texts.{Loads, has_refused, turns_of}
use Rattle.union_script.specs.declared.loading.Applied.{Applied}
use Rattle.union_script.specs.declared.loading.Report.{Report}

-- the batches of these frames were applied one after the other, and their turns told, or not; their outcomes, and the frames, are
-- counted
pub record AreApplied (told : Bool) (library : List ℕ) (all : List Frame) (history now : List HistoryEntry) (reader : Batching) (done : Applied) : Type 0 where
  pub batches : List Batch
  pub read : AreBatches [] library all batches
  pub applied : now ≡ history ++ turns_of batches
  pub tells : TellsTurns told history batches done.notices.items
  pub counted : AreCounted (found_in (current history) batches) done.counts
  pub frames : reader.frames ≡ length all
  pub refused : reader.refused ≡ refused all

-- the library that has these frames was loaded, and this is to be written of it
pub record IsLoaded (told : Bool) (library : List ℕ) (all : List Frame) (history now : List HistoryEntry) (report : Report) : Type 0 where
  pub loads : Loads told library all history report.text.items now
  pub refused : report.refused ≡ has_refused all
