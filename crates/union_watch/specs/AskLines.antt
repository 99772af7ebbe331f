-- The lines of a file of questions.
use Rattle.std.specs.Prelude.{ℕ, Bool, List, [], ◌∷◌, map, Result, Ok, Err}
use Rattle.std.specs.List.{flat_map, list_any}
use Rattle.std.specs.Result.{is_err}
use Rattle.catalogue_query.specs.Queries.{query_of}
use Rattle.catalogue_query.specs.declared.query.Query.{Query}
use Rattle.catalogue_query.specs.declared.query.QueryRefusal.{QueryRefusal}
use Rattle.catalogue_query.specs.declared.query.QueryRefusal.TheVariants.{Unknown, Word as BadRest}
use Rattle.union_words.specs.Lines.{lines_of, kept}
use Rattle.union_watch.specs.declared.ask_file.AskFile.{AskFile}
use Rattle.union_watch.specs.declared.ask_line.AskLine.{AskLine as LineInPlace}
use Rattle.union_watch.specs.declared.ask_line.AskLine.TheVariants.{Asks as AsksInPlace, Unknown as UnknownInPlace, Word as WordInPlace}

-- a line that asks something, or why it is refused
abbrev pub AskLine : Type 0
AskLine = Result (List ℕ) QueryRefusal

-- the line that the code borrows
abbrev pub line_meaning : LineInPlace → AskLine
line_meaning (AsksInPlace line) = Ok line.now
line_meaning UnknownInPlace = Err Unknown
line_meaning WordInPlace = Err BadRest

-- the lines of a file of questions that were read
abbrev pub lines_read : AskFile → List AskLine
lines_read file = map line_meaning file.lines.items

-- the line, where it gives a query
abbrev pub with_line : List ℕ → Result Query QueryRefusal → AskLine
with_line line (Ok query) = Ok line
with_line line (Err refusal) = Err refusal

-- a line of the file of questions, as it is read
abbrev pub read_line : List ℕ → AskLine
read_line line = with_line line (query_of line)

-- the query, where there is one
abbrev pub given : Result Query QueryRefusal → List Query
given (Ok query) = query ∷ []
given (Err refusal) = []

-- the question of a line, if it is one
abbrev pub question_of : List ℕ → List Query
question_of line = given (query_of line)

-- the lines of a file of questions that are not skipped
abbrev pub asked_lines : List ℕ → List (List ℕ)
asked_lines text = kept (lines_of text)

-- and what each comes to
abbrev pub lines_in : List ℕ → List AskLine
lines_in text = map read_line (asked_lines text)

-- the questions of those that ask something
abbrev pub questions_in : List ℕ → List Query
questions_in text = flat_map question_of (asked_lines text)

-- a line of it is refused
abbrev pub has_refused_line : List ℕ → Bool
has_refused_line text = list_any is_err (lines_in text)
