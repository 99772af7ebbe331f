-- What a catalogue answers to a query: by its table of names, by the list of its editions, which stand in order of their least
-- contributors, and by the editions of its current records under their ids.
use Rattle.std.specs.Prelude.{ℕ, ◌&&◌, Bool, false, List, [], ◌∷◌, ◌++◌, map, filter, flat_map, length, codes}
use Rattle.std.specs.List.{list_any}
use Rattle.std.specs.Option.{option_map_or}
use Rattle.std.specs.Map.{values_of}
use Rattle.union_base.specs.SortedLists.{set_of}
use Rattle.union_base.specs.declared.record_id.RecordId.{RecordId}
use Rattle.match_features.specs.Kept.{texts_cmp}
use Rattle.holdings_book.specs.Holdings.{holdings_of}
use Rattle.catalogue_core.specs.Ids.{least}
use Rattle.catalogue_core.specs.EditionKeys.{work_key_by}
use Rattle.authority_names.specs.Leads.{Table}
use Rattle.catalogue_core.specs.Histories.{MapOf, at_id}
use Rattle.catalogue_editions.specs.Ids.{has_contributor}
use Rattle.catalogue_editions.specs.declared.edition.Edition.{Edition}
use Rattle.catalogue_query.specs.Lines.{edition_line, by_line, work_line, hold_line, count_line}
use Rattle.union_base.specs.Alike.{same_text}
use Rattle.catalogue_query.specs.declared.query.Query.{Query}
use Rattle.catalogue_query.specs.declared.query.Query.TheVariants.{Id, Isbn, Issn, Control, Title, Work, Holdings, Count}

-- the text stands among the texts
abbrev pub stands_in : List ℕ → List (List ℕ) → Bool
stands_in text texts = list_any (λ held. same_text held text) texts

-- the pair of the two texts stands among the pairs
abbrev pub pair_stands_in : List ℕ → List ℕ → List (List ℕ × List ℕ) → Bool
pair_stands_in source number pairs = list_any (λ pair. same_text pair.0 source && same_text pair.1 number) pairs

-- the edition is one that the query asks for
abbrev pub is_asked : Table → Query → Edition → Bool
is_asked names (Id id) e = has_contributor id e
is_asked names (Isbn digits) e = stands_in digits e.features.isbns
is_asked names (Issn number) e = stands_in number e.features.issns
is_asked names (Control source number) e = pair_stands_in source number e.features.control
is_asked names (Title form) e = stands_in form e.features.titles
is_asked names (Work key) e = same_text (work_key_by names e) key
is_asked names (Holdings id) e = has_contributor id e
is_asked names Count e = false

-- an edition by its least contributor, then each of its contributors, and its work
abbrev pub identity_lines : Table → Edition → List (List ℕ)
identity_lines names e =
    edition_line (least e) ∷ (map by_line e.content.contributors ++ work_line (work_key_by names e) ∷ [])

-- the holdings of the current record of that id
abbrev pub record_lines : MapOf Edition → RecordId → List (List ℕ)
record_lines records id = option_map_or (λ e. map hold_line (holdings_of id e.content.united)) (at_id records id) []

-- the holdings of each contributor of an edition
abbrev pub holding_lines : MapOf Edition → Edition → List (List ℕ)
holding_lines records e = flat_map (record_lines records) e.content.contributors

-- what a query is told of an edition that it asks for
abbrev pub told : Table → Query → MapOf Edition → Edition → List (List ℕ)
told names (Id id) records e = identity_lines names e
told names (Holdings id) records e = holding_lines records e
told names query records e = edition_line (least e) ∷ []

-- what it is told of the editions that it asks for, in their order
abbrev pub told_of_all : Table → Query → MapOf Edition → List Edition → List (List ℕ)
told_of_all names query records all = flat_map (told names query records) (filter (is_asked names query) all)

-- the keys of the works of some editions, each once
abbrev pub work_keys : Table → List Edition → List (List ℕ)
work_keys names all = set_of texts_cmp (map (work_key_by names) all)

-- the lines of an answer, which may be none: the counts, or what is told of the editions
abbrev pub lines_of : Table → Query → MapOf Edition → List Edition → List (List ℕ)
lines_of names Count records all = count_line (length all) (length (work_keys names all)) (length (values_of records)) ∷ []
lines_of names query records all = told_of_all names query records all

-- an answer has a line at least
abbrev pub or_none : List (List ℕ) → List (List ℕ)
or_none [] = codes "none" ∷ []
or_none (line ∷ lines) = line ∷ lines

-- the lines of the answer
abbrev pub answer_lines : Table → Query → MapOf Edition → List Edition → List (List ℕ)
answer_lines names query records all = or_none (lines_of names query records all)
