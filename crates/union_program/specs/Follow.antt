-- What a run of `follow` does.
use Rattle.std.specs.Prelude.{ℕ, List, [], None}
use Rattle.catalogue_editions.specs.declared.history_entry.HistoryEntry.{HistoryEntry}
use Rattle.catalogue_editions.specs.declared.batch.Batch.{Batch}
use Rattle.union_files.specs.Interleavings.{IsInterleaving}
use Rattle.union_follow.specs.Following.{IsInOrder}
use Rattle.union_watch.specs.WatchRuns.{Watch, IsAskedRun}
use Rattle.union_words.specs.Flows.{ShelfFlow, Outflow}
use Rattle.union_words.specs.Words.{LibraryFile}
use Rattle.union_words.specs.declared.status.Status.{Status}

-- the history has the batches of each stream and no others, and those of one stream stand before those of the next
abbrev pub AreInOrder : List (List Batch) → List HistoryEntry → Type 0
AreInOrder streams history = IsInterleaving streams history × IsInOrder history

-- what is asked: as by `watch` with two workers, no preference and no file of names
abbrev pub followed : List ℕ → List LibraryFile → Watch
followed asks libraries = record { workers = 2; prefer = []; names = None; asks = asks; libraries = libraries }

-- `follow` does what `watch` does, and the turns of a library come before those of the next one of the command
abbrev pub IsFollowRun : List ℕ → List LibraryFile → ShelfFlow → Outflow → Outflow → Status → Type 0
IsFollowRun asks libraries shelf out notes status = IsAskedRun AreInOrder (followed asks libraries) shelf out notes status
