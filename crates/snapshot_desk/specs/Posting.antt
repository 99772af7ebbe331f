-- An entry on the board.
use Rattle.std.specs.Prelude.{◌≡◌, ℕ, suc, List, [], ◌∷◌, ◌++◌, length, take}
use Rattle.catalogue_editions.specs.declared.history_entry.HistoryEntry.{HistoryEntry}

-- the list ends with the entry, which stands at that place, counted from 0
abbrev pub EndsWith : List HistoryEntry → ℕ → HistoryEntry → Type 0
EndsWith log place entry = (length log ≡ suc place) × (take place log ++ entry ∷ [] ≡ log)
