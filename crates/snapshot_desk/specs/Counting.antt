-- The rule of the log of published entries, and what the steps on its word tell.
use Rattle.std.specs.Prelude.{◌≡◌, ℕ, ◌==◌, true, List, [], ◌∷◌, ◌++◌, length, MatchBool}
use Rattle.logbook.specs.Pages.{Cell, Step, View, Book, Named}
use Rattle.catalogue_editions.specs.declared.history_entry.HistoryEntry.{HistoryEntry}

-- the first word counts the entries. A log has two words, of which this one leaves the second at 0
abbrev pub IsCounted : List Cell → List HistoryEntry → Type 0
IsCounted cells log = cells ≡ (length log, true) ∷ (0, true) ∷ []

-- the word that counts
abbrev pub head_of : Book → Named
head_of book = record { tracked = true; key = 0; book = book }

-- as many entries are seen as the word counts
abbrev pub Looks : Step HistoryEntry → View HistoryEntry ℕ → ℕ → View HistoryEntry ℕ → Type 0
Looks step before found now = length now.0 ≡ found

-- if the word held the count that the step expected, the step's entry follows those that had been seen
abbrev pub Adds : Step HistoryEntry → View HistoryEntry ℕ → ℕ → View HistoryEntry ℕ → Type 0
Adds step before found now = MatchBool (found == step.old) (now.0 ≡ before.0 ++ step.ask ∷ []) (Unit {0})

-- the three numbers that say which log it is
abbrev pub numbers_of : Book → List ℕ
numbers_of book = book.number ∷ book.log_name ∷ book.cells_name ∷ []
