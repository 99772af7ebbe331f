-- The history of a catalogue as entries: pairs of a number and a batch.
use Rattle.std.specs.Prelude.{◌≡◌, ℕ, List, map}
use Rattle.catalogue_core.specs.Histories.{current, outcomes}
use Rattle.catalogue_editions.specs.declared.batch.Batch.{Batch}
use Rattle.catalogue_editions.specs.declared.history_entry.HistoryEntry.{HistoryEntry}
use Rattle.catalogue_editions.specs.declared.outcome.Outcome.{Outcome}

-- the entries of a history
abbrev pub entries_of : List HistoryEntry → List (ℕ × Batch)
entries_of history = map (λ (entry : HistoryEntry). (entry.pass, entry.batch)) history

-- the history of entries
abbrev pub history_of : List (ℕ × Batch) → List HistoryEntry
history_of entries = map (λ (entry : ℕ × Batch). record { pass = entry.0; batch = entry.1 }) entries

-- what comes of a batch after these entries
abbrev pub gives : List (ℕ × Batch) → Batch → List Outcome → Type 0
gives entries batch found = found ≡ outcomes batch.library (current (history_of entries)) batch.ops
