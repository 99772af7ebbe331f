-- The streams of the three libraries, and how they are loaded.
use Rattle.std.specs.Prelude.{◌≡◌, ℕ, zero, suc, ◌+◌, ◌-◌, List, [], ◌∷◌, ◌++◌, map, codes}
use Rattle.catalogue_editions.specs.declared.batch.Batch.{Batch}
use Rattle.catalogue_editions.specs.declared.history_entry.HistoryEntry.{HistoryEntry}
use Rattle.library_batches.specs.Batches.{AreBatches}
use Rattle.library_batches.specs.Streams.{Frame}
use Rattle.union_trial.specs.Draws.{draws_from, library_draws}
use Rattle.union_trial.specs.TrialRecords.{frame_of}
use Rattle.union_trial.specs.declared.draws.Draws.{Draws}
use Rattle.union_trial.specs.declared.library_draws.LibraryDraws.{LibraryDraws}

-- the draws that are still to come
abbrev pub still_drawn : LibraryDraws → List Draws
still_drawn d = draws_from d.count d.place d.generator.state d.number (d.count - d.number)

-- `T0`, `T1` and `T2`
abbrev pub library_code : ℕ → List ℕ
library_code place = codes "T" ++ (0x30 + place) ∷ []

-- the stream of a library, of `count` frames that are generated from that seed
abbrev pub stream : ℕ → ℕ → ℕ → List Frame
stream seed count place = map frame_of (library_draws seed count place)

-- the turns by which batches of the library at that place are applied
abbrev pub turns_of : ℕ → List Batch → List HistoryEntry
turns_of place batches = map (λ batch. record { pass = place; batch = batch }) batches

-- the stream of the library at that place is loaded: its batches are applied one after the other
pub record Loads (seed count place : ℕ) (history now : List HistoryEntry) : Type 0 where
  pub batches : List Batch
  pub read : AreBatches [] (library_code place) (stream seed count place) batches
  pub applied : now ≡ history ++ turns_of place batches

-- the streams of this many libraries are loaded, one after the other
abbrev pub AreLoaded : ℕ → ℕ → ℕ → List HistoryEntry → Type 0
AreLoaded seed count zero history = history ≡ []
AreLoaded seed count (suc place) history = (before : List HistoryEntry) × AreLoaded seed count place before × Loads seed count place before history
