-- The query of a line. A blank is the byte 0x20 and no other.
use Rattle.std.specs.Prelude.{ℕ, ◌&&◌, Bool, not, if◌then◌else◌, Option, Some, None, Result, Err, List, codes}
use Rattle.std.specs.Option.{ok_or, option_map, option_map_or}
use Rattle.std.specs.Str.{is_utf8}
use Rattle.union_base.specs.Alike.{same_text}
use Rattle.union_base.specs.LibraryCodes.{is_library_code}
use Rattle.union_base.specs.declared.record_id.RecordId.{RecordId}
use Rattle.union_base.specs.Blanks.{first_word, rest_of, trimmed}
use Rattle.marc_parts.specs.Loads.{has_number_shape}
use Rattle.naco_normal.specs.Heading.{form_without_comma}
use Rattle.naco_normal.specs.Words.{is_empty}
use Rattle.isbn_keys.specs.Isbn.{isbn_key}
use Rattle.isbn_keys.specs.Issn.{issn_key}
use Rattle.isbn_keys.specs.Control.{system_key}
use Rattle.catalogue_query.specs.declared.query.Query.{Query}
use Rattle.catalogue_query.specs.declared.query.Query.TheVariants.{Id, Isbn, Issn, Control, Title, Work, Holdings, Count}
use Rattle.catalogue_query.specs.declared.query.QueryRefusal.{QueryRefusal}
use Rattle.catalogue_query.specs.declared.query.QueryRefusal.TheVariants.{Unknown, Word as BadRest}
use Rattle.catalogue_query.specs.declared.word.Word.{Word}
use Rattle.catalogue_query.specs.declared.word.Word.TheVariants as first

-- the word that begins a question, one of eight
abbrev pub word_of : List ℕ → Option Word
word_of text =
    if same_text text (codes "id") then Some first.Id else
    (if same_text text (codes "isbn") then Some first.Isbn else
    (if same_text text (codes "issn") then Some first.Issn else
    (if same_text text (codes "control") then Some first.Control else
    (if same_text text (codes "title") then Some first.Title else
    (if same_text text (codes "work") then Some first.Work else
    (if same_text text (codes "holdings") then Some first.Holdings else
    (if same_text text (codes "count") then Some first.Count else None)))))))

-- a library code, one blank, and a control number without the blanks at its ends
abbrev pub number_in : List ℕ → List ℕ
number_in rest = trimmed (rest_of rest)

-- the id that the rest of the line names: a library's code, a blank, and a control number
abbrev pub id_in : List ℕ → Option RecordId
id_in rest =
    if is_library_code (first_word rest) && has_number_shape (number_in rest)
    then Some (record { library = first_word rest; control = number_in rest })
    else None

-- the question about the record of that id
abbrev pub id_query : List ℕ → Option Query
id_query rest = option_map Id (id_in rest)

-- the question about that record's holdings
abbrev pub holdings_query : List ℕ → Option Query
holdings_query rest = option_map Holdings (id_in rest)

-- an ISBN by its key
abbrev pub isbn_query : List ℕ → Option Query
isbn_query rest = option_map Isbn (isbn_key rest)

-- an ISSN by its key
abbrev pub issn_query : List ℕ → Option Query
issn_query rest = option_map Issn (issn_key rest)

-- a control number and its source by their key
abbrev pub control_query : List ℕ → Option Query
control_query rest = option_map (λ key. Control key.0 key.1) (system_key rest)

-- a title by its normal form without commas
abbrev pub title_query : List ℕ → Option Query
title_query rest =
    if is_utf8 rest && not (is_empty (form_without_comma rest)) then Some (Title (form_without_comma rest)) else None

-- a work by its whole key
abbrev pub work_query : List ℕ → Option Query
work_query rest = if is_empty rest then None else Some (Work rest)

-- the question about counts, which has no rest
abbrev pub count_query : List ℕ → Option Query
count_query rest = if is_empty rest then Some Count else None

-- the query of a word, where the rest of its line is in the grammar of the word
abbrev pub query_behind : Word → List ℕ → Option Query
query_behind first.Id rest = id_query rest
query_behind first.Isbn rest = isbn_query rest
query_behind first.Issn rest = issn_query rest
query_behind first.Control rest = control_query rest
query_behind first.Title rest = title_query rest
query_behind first.Work rest = work_query rest
query_behind first.Holdings rest = holdings_query rest
query_behind first.Count rest = count_query rest

-- the query of a line, or why it has none: an unknown first word, or a rest that is not in the grammar of the word
abbrev pub query_of : List ℕ → Result Query QueryRefusal
query_of line = option_map_or (λ word. ok_or (query_behind word (rest_of line)) BadRest) (word_of (first_word line)) (Err Unknown)
