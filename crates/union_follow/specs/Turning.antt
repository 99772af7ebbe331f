-- The turns of one library, and a catalogue that is published.
use Rattle.std.specs.Prelude.{◌≡◌, ◌||◌, ◌+◌, ◌<◌, ℕ, zero, suc, Option, IsTrue, List, [], ◌∷◌, ◌++◌, length, map, Some, Ok, Err, IfSome, OnOk, slice_get, ◌≢◌}
use Rattle.std.specs.List.{AllByRecursion}
use Rattle.std.specs.declared.result.Result.{Result}
use Rattle.catalogue_core.specs.Histories.{current, outcomes}
use Rattle.catalogue_editions.specs.declared.batch.Batch.{Batch}
use Rattle.catalogue_editions.specs.declared.history_entry.HistoryEntry.{HistoryEntry}
use Rattle.catalogue_editions.specs.declared.outcome.Outcome.{Outcome}
use Rattle.iso2709_frame.specs.Frames.{frames}
use Rattle.library_batches.specs.Batches.{AreBatches}
use Rattle.library_batches.specs.Outcomes.{AreCounted}
use Rattle.library_batches.specs.Reading.{Batching}
use Rattle.library_batches.specs.Refused.{refused}
use Rattle.library_batches.specs.Streams.{Frame}
use Rattle.library_batches.specs.declared.outcome_counts.OutcomeCounts.{OutcomeCounts}
use Rattle.library_batches.specs.declared.stop.Stop.{Stop}
use Rattle.library_batches.specs.declared.stop.Stop.TheVariants.{TooLong, Failed, Memory}
use Rattle.catalogue_core.specs.Entries.{entries_of}
use Rattle.library_batches.specs.Tallies.{found}
use Rattle.snapshot_desk.specs.States.{Publishing}
use Rattle.union_files.specs.Deliveries.{delivery, has_refused}
use Rattle.union_files.specs.Inputs.{OpenedState, StopsAtLibraries, input_of, inputs_of, files_of, states_of}
use Rattle.union_files.specs.Limits.{AreWithin, first_overfull}
use Rattle.union_files.specs.declared.opened_file.OpenedFile.{OpenedFile}
use Rattle.union_io.specs.Causes.{Rose}
use Rattle.union_io.specs.Counts.{SameElsewhere}
use Rattle.union_io.specs.Files.{told_file}
use Rattle.union_io.specs.Names.{is_among}
use Rattle.library_batches.specs.Reports.{report_text}
use Rattle.union_files.specs.declared.reports.Reports.{Reports}
use Rattle.union_words.specs.Flows.{ShelfFlow, IsCalm}
use Rattle.union_words.specs.Words.{LibraryFile}
use Rattle.union_words.specs.declared.status.Status.{Status}
use Rattle.union_follow.specs.declared.libraries.Halt.{Halt}

-- the published list is the history, and nothing is pending
pub record IsShown (history : List HistoryEntry) (publisher : Publishing) : Type 0 where
  pub published : publisher.published ≡ history
  pub none : publisher.pending ≡ []

-- the turns of batches, under that number
abbrev pub turns_as : ℕ → List Batch → List HistoryEntry
turns_as pass batches = map (λ batch. record { pass = pass; batch = batch }) batches

-- the history with one turn more, by which the batch is applied under that number
abbrev pub with_turn : List HistoryEntry → ℕ → Batch → List HistoryEntry
with_turn history pass batch = history ++ record { pass = pass; batch = batch } ∷ []

-- what comes of a batch's operations over a history
abbrev pub outcomes_over : List HistoryEntry → Batch → List Outcome
outcomes_over history batch = outcomes batch.library (current history) batch.ops

-- turns under that number were added
abbrev pub HasTurned : ℕ → List HistoryEntry → List HistoryEntry → Type 0
HasTurned pass history now = (batches : List Batch) × (now ≡ history ++ turns_as pass batches)

-- all batches of these frames were applied one after the other under that number; the frames are counted, and what came of the
-- batches of that number in the history
pub record AreTurned (pass : ℕ) (library : List ℕ) (all : List Frame) (history now : List HistoryEntry) (reader : Batching) (counts : OutcomeCounts) : Type 0 where
  pub batches : List Batch
  pub read : AreBatches [] library all batches
  pub applied : now ≡ history ++ turns_as pass batches
  pub counted : AreCounted (found (entries_of now) pass) counts
  pub frames : reader.frames ≡ length all
  pub refused : reader.refused ≡ refused all

-- the library that has these frames was loaded under that number, and its report was added
pub record IsTurned (pass : ℕ) (library : List ℕ) (all : List Frame) (history now : List HistoryEntry) (before after : Reports) : Type 0 where
  pub batches : List Batch
  pub read : AreBatches [] library all batches
  pub applied : now ≡ history ++ turns_as pass batches
  pub text : after.text.items ≡ before.text.items ++ report_text library all (found (entries_of now) pass)
  pub refused : after.refused ≡ (before.refused || has_refused (delivery [] library all))

-- the same of each of these files, one after the other, from that number on
abbrev pub AreTurnedFrom : (List ℕ → List ℕ) → ℕ → List LibraryFile → List HistoryEntry → List HistoryEntry → Reports → Reports → Type 0
AreTurnedFrom contents pass [] history now before after = (now ≡ history) × (after ≡ before)
AreTurnedFrom contents pass (file ∷ files) history now before after =
    (middle : List HistoryEntry) × (between : Reports) × IsTurned pass file.library (frames (contents file.path)) history middle before between
    × AreTurnedFrom contents (suc pass) files middle now between after

-- nothing of these opened files was read, and no read of them failed: the bytes that are left are those of their names, where told
abbrev pub AreUnread : Option (List ℕ → List ℕ) → List OpenedState → Type 0
AreUnread told states = AllByRecursion (λ state. (state.left ≡ told_file told state.name) × (state.faults ≡ 0)) states

-- no read of them failed
abbrev pub AreCalm : List OpenedState → Type 0
AreCalm states = AllByRecursion (λ state. state.faults ≡ 0) states

-- their names were opened
abbrev pub AreListed : List (List ℕ) → List OpenedState → Type 0
AreListed names states = AllByRecursion (λ state. IsTrue (is_among state.name names)) states

-- a read of the one at that place failed, and of no other
abbrev pub FailsOnly : ℕ → List OpenedState → Type 0
FailsOnly place [] = ⊥
FailsOnly zero (state ∷ states) = (0 < state.faults) × AreCalm states
FailsOnly (suc place) (state ∷ states) = (state.faults ≡ 0) × FailsOnly place states

-- a read of the file at a place failed, and the count of its name rose
abbrev pub RaisesAt : List OpenedState → (List ℕ → ℕ) → (List ℕ → ℕ) → Type 0
RaisesAt states before after = (place : ℕ) (state : OpenedState) → FailsOnly place states → slice_get states place ≡ Some state
    → Rose (before state.name) (after state.name) × SameElsewhere before after state.name

-- why the file at that place was not read to its end
abbrev pub StopsIn : Stop → ℕ → LibraryFile → Option (List ℕ → List ℕ) → List LibraryFile → List OpenedState → Type 0
StopsIn Failed place file told files now = FailsOnly place now
StopsIn TooLong place file told files now = AreCalm now × IfSome told (λ contents. first_overfull contents (inputs_of files) ≡ Some (input_of file))
StopsIn Memory place file told files now = AreCalm now

-- the same at a shelf, to which the files were given back: the count of its name rose where a read failed, and else none
abbrev pub HaltsAt : Stop → LibraryFile → List LibraryFile → ShelfFlow → Type 0
HaltsAt Failed file files shelf = Rose (shelf.before file.path) (shelf.after file.path) × SameElsewhere shelf.before shelf.after file.path
HaltsAt TooLong file files shelf = IsCalm shelf × IfSome shelf.files (λ contents. first_overfull contents (inputs_of files) ≡ Some (input_of file))
HaltsAt Memory file files shelf = IsCalm shelf

-- each of the opened files was read to its end, or not, at the place that is told
abbrev pub HaltsIn : {T : Type 0} → Result T Halt → ℕ → Option (List ℕ → List ℕ) → List OpenedState → List OpenedState → ((List ℕ → List ℕ) → Type 0) → Type 0
HaltsIn (Ok done) first told before now IsOf = AreCalm now × IfSome told (λ contents. AreWithin contents (inputs_of (files_of before)) × IsOf contents)
HaltsIn (Err halt) first told before now IsOf =
    (place : ℕ) × (file : LibraryFile) × (halt.place ≡ first + place) × (slice_get (files_of before) place ≡ Some file)
    × StopsIn halt.stop place file told (files_of before) now

-- the code is that of the first library whose file has the name of the file at that place
abbrev pub IsFirstOf : List LibraryFile → ℕ → List ℕ → Type 0
IsFirstOf libraries place code = (first : ℕ) × (file other : LibraryFile) × (slice_get libraries place ≡ Some other)
    × (slice_get libraries first ≡ Some file) × (file.library ≡ code) × (file.path ≡ other.path)
    × ((earlier : ℕ) (before : LibraryFile) → earlier < first → slice_get libraries earlier ≡ Some before → before.path ≢ other.path)

-- the status says at a shelf why the load stopped there
abbrev pub TellsHalt : List LibraryFile → Halt → Status → Type 0
TellsHalt libraries halt status = (file : LibraryFile) (shelf : ShelfFlow) → slice_get libraries halt.place ≡ Some file
    → HaltsAt halt.stop file libraries shelf → StopsAtLibraries status libraries shelf

-- each turn has a lower number
abbrev pub IsBelow : ℕ → List HistoryEntry → Type 0
IsBelow pass history = AllByRecursion (λ entry. entry.pass < pass) history

module _ {S : Type 0} (name : S → List ℕ) (left : S → Option (List ℕ)) (faults : S → ℕ) where
  -- opened files of the same libraries
  abbrev pub SameFiles : List (OpenedFile S) → List (OpenedFile S) → Type 0
  SameFiles before now = files_of (states_of name left faults now) ≡ files_of (states_of name left faults before)

  -- what the load of opened files did, from no turn on: the same files, the same publisher, and what came of them
  pub record Runs (before now : List (OpenedFile S)) (history after : List HistoryEntry) (old new : Publishing) (told texts : Reports)
      (result : Result (Unit {0}) Halt) : Type 0 where
    pub long : length now ≡ length before
    pub same : files_of (states_of name left faults now) ≡ files_of (states_of name left faults before)
    pub book : new.book ≡ old.book
    pub shown : OnOk result (IsShown after new)
    pub halts : (files : Option (List ℕ → List ℕ)) → AreUnread files (states_of name left faults before)
        → HaltsIn result 0 files (states_of name left faults before) (states_of name left faults now)
        (λ contents. AreTurnedFrom contents 0 (files_of (states_of name left faults before)) history after told texts)
