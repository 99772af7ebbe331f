-- What the turn lines of `watch` tell.
use Rattle.std.specs.Prelude.{◌≡◌, ℕ, IsTrue, List, map}
use Rattle.std.specs.List.{AllByRecursion}
use Rattle.union_base.specs.LibraryCodes.{is_library_code}
use Rattle.catalogue_editions.specs.declared.history_entry.HistoryEntry.{HistoryEntry}
use Rattle.union_files.specs.Deliveries.{Stream, AreDistinct, batches_of}
use Rattle.union_files.specs.Interleavings.{IsInterleaving}
use Rattle.union_watch.specs.Told.{Told}
use Rattle.union_watch.specs.TurnLines.{turns_from, written}
use Rattle.union_watch.specs.WatchTexts.{watch_text}

-- the codes of the libraries whose streams these are
abbrev pub libraries_of : List Stream → List (List ℕ)
libraries_of streams = map (λ s. s.library) streams

-- the lines on the turns of a history in which the streams of distinct libraries interleave stand for that history
abbrev pub TurnLinesAreHistory : Type 0
TurnLinesAreHistory = (streams : List Stream) (history : List HistoryEntry) → AreDistinct (libraries_of streams)
    → IsInterleaving (map batches_of streams) history
    → written (libraries_of streams) (map batches_of streams) (turns_from 1 history) ≡ history

-- the text of `watch` has one history: where the streams of distinct libraries interleave in two histories, and the same text is
-- written of both, whatever is told of the questions, they are one
abbrev pub WatchTextHasOneHistory : Type 0
WatchTextHasOneHistory = (streams : List Stream) (one two : List HistoryEntry) (told other : List Told) → AreDistinct (libraries_of streams)
    → AllByRecursion (λ code. IsTrue (is_library_code code)) (libraries_of streams) → IsInterleaving (map batches_of streams) one
    → IsInterleaving (map batches_of streams) two → watch_text one told ≡ watch_text two other → one ≡ two
