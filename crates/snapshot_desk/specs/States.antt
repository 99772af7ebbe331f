-- What contracts see of a publisher, of its viewer, and of a note of what was published.
use Rattle.std.specs.Prelude.{List}
use Rattle.logbook.specs.Pages.{Book}
use Rattle.catalogue_editions.specs.declared.history_entry.HistoryEntry.{HistoryEntry}

-- a publisher: which one it is, the entries that it has published, and those that are still pending
pub record Publishing : Type 0 where
  pub book : Book
  pub published : List HistoryEntry
  pub pending : List HistoryEntry

-- a viewer: whose it is, the entries over which it answers, and a published list that its next view has at least
pub record Viewing : Type 0 where
  pub book : Book
  pub seen : List HistoryEntry
  pub learnt : List HistoryEntry

-- a note: whose it is, and the list that was published when it was made
pub record Noting : Type 0 where
  pub book : Book
  pub published : List HistoryEntry
