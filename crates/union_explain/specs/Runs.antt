-- The table of a report.
use Rattle.std.specs.Prelude.{ℕ, ◌+◌, ◌-◌, ◌^◌, min, Bool, List, [], ◌∷◌, ◌++◌, decimal, codes}
use Rattle.std.specs.List.{flat_map, filter_map, list_any}
use Rattle.union_words.specs.Lines.{lines_of}
use Rattle.union_words.specs.Words.{LibraryFile}
use Rattle.union_explain.specs.Located.{located}
use Rattle.union_explain.specs.Reports.{refused_by, rising}
use Rattle.union_explain.specs.Rows.{rows_of, row_count, any_astray, heading}
use Rattle.union_explain.specs.declared.form.Form.{Form}
use Rattle.union_explain.specs.declared.reported.Reported.{Reported}
use Rattle.union_explain.specs.declared.stop.Stop.{Stop}
use Rattle.union_explain.specs.declared.stop.Stop.TheVariants.{TooLong as StopTooLong, Failed as StopFailed, Memory as StopMemory}
use Rattle.union_words.specs.declared.input.Input.{Input}
use Rattle.union_words.specs.declared.status.Status.{Status}
use Rattle.union_words.specs.declared.status.Status.TheVariants.{ReadFault, TooLong, Memory}

-- the refused records of a library that the report tells of
abbrev pub refused_in : List ℕ → List ℕ → List Reported
refused_in report library = rising 0 (filter_map (refused_by library) (lines_of report))

-- the rows of a library, where the files have these contents
abbrev pub library_rows : Form → List ℕ → (List ℕ → List ℕ) → LibraryFile → List ℕ
library_rows form report contents file =
    rows_of form file.library (located (contents file.path)) (refused_in report file.library)

-- the rows of all libraries, in the order of the words
abbrev pub all_rows : Form → List ℕ → (List ℕ → List ℕ) → List LibraryFile → List ℕ
all_rows form report contents libraries = flat_map (library_rows form report contents) libraries

-- the table of the libraries in their order
abbrev pub table_text : Form → List ℕ → (List ℕ → List ℕ) → List LibraryFile → List ℕ
table_text form report contents libraries = heading form ++ all_rows form report contents libraries

-- how many rows it has
abbrev pub table_rows : List ℕ → (List ℕ → List ℕ) → List LibraryFile → ℕ
table_rows report contents [] = 0
table_rows report contents (file ∷ rest) =
    row_count (located (contents file.path)) (refused_in report file.library) + table_rows report contents rest

-- some line that the report has of these libraries tells of no frame of its file
abbrev pub are_astray : List ℕ → (List ℕ → List ℕ) → List LibraryFile → Bool
are_astray report contents libraries =
    list_any (λ file. any_astray (located (contents file.path)) (refused_in report file.library)) libraries

-- how many lines are not empty
abbrev pub told_lines : List (List ℕ) → ℕ
told_lines [] = 0
told_lines ([] ∷ rest) = told_lines rest
told_lines ((b ∷ line) ∷ rest) = 1 + told_lines rest

-- how many lines of a report are not empty, as far as a run counts
abbrev pub told_count : List ℕ → ℕ
told_count report = min (told_lines (lines_of report)) (2 ^ 64 - 1)

-- `lines L explained E passed P`
unfoldable pub counts_text : ℕ → ℕ → List ℕ
counts_text lines rows =
    (codes "lines " ++ decimal lines)
    ++ ((codes " explained " ++ decimal rows) ++ ((codes " passed " ++ decimal (lines - rows)) ++ 0x0A ∷ []))

-- the status for an input that was not read to its end
abbrev pub stopped_with : Stop → Input → Status
stopped_with StopTooLong input = TooLong input
stopped_with StopFailed input = ReadFault input
stopped_with StopMemory input = Memory
