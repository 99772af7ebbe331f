-- Histories in which batches of several streams interleave.
use Rattle.std.specs.Prelude.{◌≡◌, ℕ, ◌==◌, nat_lt, IsTrue, List, length, map, filter, slice_get, Some}
use Rattle.std.specs.List.{list_all}
use Rattle.catalogue_editions.specs.declared.batch.Batch.{Batch}
use Rattle.catalogue_editions.specs.declared.history_entry.HistoryEntry.{HistoryEntry}

-- the batches that were applied under that number, in their order
abbrev pub batches_under : ℕ → List HistoryEntry → List Batch
batches_under n history = map (λ entry. entry.batch) (filter (λ entry. entry.pass == n) history)

-- the history has the batches of each stream, in their order and under the stream's place, and no others: whatever the order
-- between the streams
pub record IsInterleaving (streams : List (List Batch)) (history : List HistoryEntry) : Type 0 where
  pub numbers : IsTrue (list_all (λ entry. nat_lt entry.pass (length streams)) history)
  pub each : (n : ℕ) (batches : List Batch) → slice_get streams n ≡ Some batches → batches_under n history ≡ batches
