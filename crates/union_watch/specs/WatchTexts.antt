-- The text of `watch`.
use Rattle.std.specs.Prelude.{ℕ, List, ◌++◌}
use Rattle.catalogue_editions.specs.declared.history_entry.HistoryEntry.{HistoryEntry}
use Rattle.union_watch.specs.Told.{Told, told_text_of}
use Rattle.union_watch.specs.TurnLines.{turns_text}

-- a line for each turn of the history, and after them what is told of each line of the file of questions
abbrev pub watch_text : List HistoryEntry → List Told → List ℕ
watch_text history told = turns_text history ++ told_text_of told
