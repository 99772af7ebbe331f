-- What a run of `watch` does.
use Rattle.std.specs.Prelude.{◌≡◌, ℕ, ◌||◌, List, ◌∷◌, ◌++◌, length, map}
use Rattle.std.specs.List.{list_any}
use Rattle.std.specs.declared.option.Option.{Option}
use Rattle.authority_names.specs.Leads.{Table}
use Rattle.catalogue_editions.specs.declared.batch.Batch.{Batch}
use Rattle.catalogue_editions.specs.declared.history_entry.HistoryEntry.{HistoryEntry}
use Rattle.names_file.specs.Named.{Named, IsNamedBy, names_inputs}
use Rattle.union_files.specs.Limits.{Contents}
use Rattle.union_words.specs.Flows.{ShelfFlow, InputFile, Outflow}
use Rattle.union_words.specs.Statuses.{end_by}
use Rattle.union_words.specs.Words.{LibraryFile, Loading}
use Rattle.union_words.specs.declared.input.Input.TheVariants.{Asks}
use Rattle.union_words.specs.declared.status.Status.{Status}
use Rattle.union_files.specs.Deliveries.{Delivery, Stream, delivered, batches_of, reports_of, has_refused}
use Rattle.union_files.specs.Inputs.{deliveries}
use Rattle.union_files.specs.Interleavings.{IsInterleaving}
use Rattle.union_files.specs.Runs.{IsRunOver}
use Rattle.union_watch.specs.AskLines.{asked_lines, has_refused_line}
use Rattle.union_watch.specs.Lateness.{AreTimely}
use Rattle.union_watch.specs.Told.{Told, AreTold, numbers_of}
use Rattle.union_watch.specs.WatchTexts.{watch_text}

-- what is asked: a number of workers, a preference among libraries, the name of the file of names, where there is one, that of the file
-- of questions, and the libraries with their files
pub record Watch : Type 0 where
  pub workers : ℕ
  pub prefer : List (List ℕ)
  pub names : Option (List ℕ)
  pub asks : List ℕ
  pub libraries : List LibraryFile

-- what is asked by a file of questions and a load, which says all the rest
abbrev pub watch_of : List ℕ → Loading → Watch
watch_of asks loading =
    record { workers = loading.workers; prefer = loading.prefer; names = loading.names; asks = asks; libraries = loading.libraries }

-- the file of questions of that name
abbrev pub asks_at : List ℕ → InputFile
asks_at path = record { input = Asks; path = path }

-- the file of questions
abbrev pub asks_file : Watch → InputFile
asks_file watch = asks_at watch.asks

-- the files that are read before those of the libraries: that of questions, and then that of names
abbrev pub first_files : Watch → List InputFile
first_files watch = asks_file watch ∷ names_inputs watch.names

-- which histories the batches of the libraries may come to
abbrev pub Order : Type 1
Order = List (List Batch) → List HistoryEntry → Type 0

-- what is watched over these deliveries: a history of the libraries' batches, and what is told, by these names, of the lines of the
-- file of questions, of each over the first turns of that history
pub record IsWatched (AreTurns : Order) (names : Table) (workers : ℕ) (asks : List ℕ) (all : List Delivery) (streams : List Stream)
    (history : List HistoryEntry) (told : List Told) : Type 0 where
  pub delivered : map delivered streams ≡ all
  pub turns : AreTurns (map batches_of streams) history
  pub told_is : AreTold names history (asked_lines asks) told
  pub timely : AreTimely workers (length history) (numbers_of told)

-- what the libraries' files deliver
abbrev pub deliveries_of : Contents → Watch → List Delivery
deliveries_of contents watch = deliveries watch.prefer contents watch.libraries

-- the texts of a watch, and how it ends: the turns and what is told; what is told of the file of names, and the libraries' reports;
-- and whether a record of the file of names is refused, a frame of a library, or a line of the file of questions
pub record IsWatchOf (AreTurns : Order) (watch : Watch) (contents : Contents) (shown noted : List ℕ) (end : Status) : Type 0 where
  pub names : Named
  pub named : IsNamedBy contents watch.names names
  pub streams : List Stream
  pub history : List HistoryEntry
  pub told : List Told
  pub watched : IsWatched AreTurns names.table watch.workers (contents watch.asks) (deliveries_of contents watch) streams history told
  pub shown_is : shown ≡ watch_text history told
  pub noted_is : noted ≡ names.report ++ reports_of streams
  pub end_is : end ≡ end_by ((names.refused || list_any has_refused (deliveries_of contents watch)) || has_refused_line (contents watch.asks))

-- what is watched while the libraries' files are loaded by turns in such an order, and their reports
abbrev pub IsAskedRun : Order → Watch → ShelfFlow → Outflow → Outflow → Status → Type 0
IsAskedRun AreTurns watch shelf out notes status =
    IsRunOver (first_files watch) watch.libraries (IsWatchOf AreTurns watch) shelf out notes status

-- `watch`: the turns of different libraries come in any order, and each library's in its own
abbrev pub IsWatchRun : Watch → ShelfFlow → Outflow → Outflow → Status → Type 0
IsWatchRun watch shelf out notes status = IsAskedRun IsInterleaving watch shelf out notes status
