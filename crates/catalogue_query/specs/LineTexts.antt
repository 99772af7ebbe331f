-- What is told of lines, and how a text is made of lines.
use Rattle.std.specs.Prelude.{◌≡◌, ℕ, List, [], ◌∷◌, ◌++◌, length, drop, codes, decimal}
use Rattle.std.specs.List.{flat_map}
use Rattle.authority_names.specs.Leads.{Table}
use Rattle.catalogue_core.specs.Histories.{current, AreEditionsOf}
use Rattle.catalogue_editions.specs.declared.history_entry.HistoryEntry.{HistoryEntry}
use Rattle.catalogue_editions.specs.declared.edition.Edition.{Edition}
use Rattle.catalogue_query.specs.Answers.{answer_lines}
use Rattle.catalogue_query.specs.declared.query.Query.{Query}

-- the texts of lines that are refused
abbrev pub refused_word : List ℕ
refused_word = codes "refused word" ++ 0x0A ∷ []

-- the line for a question whose first word is none
abbrev pub refused_unknown : List ℕ
refused_unknown = codes "refused unknown" ++ 0x0A ∷ []

-- each line, with a line feed after it
abbrev pub ended_lines : List (List ℕ) → List ℕ
ended_lines lines = flat_map (λ line. line ++ 0x0A ∷ []) lines

-- a number in at least six digits
unfoldable pub six_digits : ℕ → List ℕ
six_digits number = drop (length (decimal number)) (codes "000000") ++ decimal number

-- the text is the answer to a query of the catalogue of that history, by these names
pub record IsAnswer (names : Table) (query : Query) (history : List HistoryEntry) (text : List ℕ) : Type 0 where
  pub editions : List Edition
  pub resolved : AreEditionsOf history editions
  pub answer : text ≡ ended_lines (answer_lines names query (current history) editions)
