-- A history of turns, the records that it leaves current, and what they come to.
pub use Rattle.catalogue_editions.specs.CurrentRecords.{MapOf, at_id, is_current, id_of, after_op, after_batch, outcome_of, outcomes}
use Rattle.std.specs.Prelude.{List, [], fold}
use Rattle.std.specs.Map.{values_of}
use Rattle.catalogue_editions.specs.Resolutions.{IsOrderedResolution}
use Rattle.catalogue_editions.specs.declared.edition.Edition.{Edition}
use Rattle.catalogue_editions.specs.declared.history_entry.HistoryEntry.{HistoryEntry}

-- the editions of the records that a history leaves current, under their ids
abbrev pub current : List HistoryEntry → MapOf Edition
current history = fold (λ all entry. after_batch all entry.batch) [] history

-- the same as a list, in order of the ids
abbrev pub bases : List HistoryEntry → List Edition
bases history = values_of (current history)

-- the editions of the catalogue of that history: what the editions of its current records resolve to, from scratch, in order
-- of the least contributors
abbrev pub AreEditionsOf : List HistoryEntry → List Edition → Type 0
AreEditionsOf history editions = IsOrderedResolution (bases history) editions
