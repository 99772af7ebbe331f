-- The rows that are written.
use Rattle.std.specs.Prelude.{ℕ, ◌+◌, ◌-◌, ◌==◌, Bool, List, [], ◌∷◌, ◌++◌, Option, Some, None, if◌then◌else◌, decimal, is_some}
use Rattle.std.specs.List.{flat_map, list_any, slice_get}
use Rattle.marc_fields.specs.RuleNames.{rule_name}
use Rattle.marc_fields.specs.declared.rules.Failure.{Failure}
use Rattle.marc_fields.specs.declared.rules.Rule.{Rule}
use Rattle.union_explain.specs.Broken.{broken_by, is_as_told, is_astray}
use Rattle.union_explain.specs.Glances.{control_number_of, tag_of}
use Rattle.union_explain.specs.Located.{Located}
use Rattle.union_explain.specs.Rules.{points_at_entry, meaning_of, advice_of}
use Rattle.union_explain.specs.declared.form.Form.{Form}
use Rattle.union_explain.specs.declared.form.Form.TheVariants.{Tabs, Csv}
use Rattle.union_explain.specs.declared.form.TheConstants.{HEADING}
use Rattle.union_explain.specs.declared.reported.Reported.{Reported}
use Rattle.union_explain.specs.Texts as texts

-- a text with each quotation mark, 0x22, doubled
abbrev pub doubled : List ℕ → List ℕ
doubled [] = []
doubled (b ∷ rest) = (if b == 0x22 then 0x22 ∷ 0x22 ∷ doubled rest else b ∷ doubled rest)

-- a column as it is written: as it is between tabs, and between quotation marks in CSV (RFC 4180)
abbrev pub cell : Form → List ℕ → List ℕ
cell Tabs column = column
cell Csv column = 0x22 ∷ (doubled column ++ 0x22 ∷ [])

-- what parts the columns: a tab, or a comma
abbrev pub separator : Form → ℕ
separator Tabs = 0x09
separator Csv = 0x2C

-- a column after another
unfoldable pub next_cell : Form → List ℕ → List ℕ
next_cell form column = separator form ∷ cell form column

-- which record it is: the library, the number of its frame, the offset of its first byte and its length
unfoldable pub place_cells : Form → List ℕ → ℕ → Located → List ℕ
place_cells form library number frame =
    cell form library
    ++ (next_cell form (decimal number) ++ (next_cell form (decimal frame.first) ++ next_cell form (decimal frame.size)))

-- the tag of the entry at the place, where that is an entry
abbrev pub tag_at : Rule → ℕ → List ℕ → List ℕ
tag_at rule place bytes = (if points_at_entry rule then tag_of place bytes else [])

-- what the record calls itself, and which field and rule it is about
unfoldable pub name_cells : Form → Rule → ℕ → List ℕ → List ℕ
name_cells form rule place bytes =
    next_cell form (control_number_of bytes) ++ (next_cell form (tag_at rule place bytes) ++ next_cell form (rule_name rule))

-- what is said of a record: what the rule of the report finds where the frame breaks it there, and else that the file is another
abbrev pub said_of : Reported → Option Failure → List ℕ
said_of told found =
    (if is_as_told told found then meaning_of told.rule told.place
    else (if is_some found then texts.other_rule else texts.no_rule))

-- what to do
abbrev pub advised_of : Reported → Option Failure → List ℕ
advised_of told found = (if is_as_told told found then advice_of told.rule told.place else texts.other_file_advice)

-- what is said of the record, and what to do
unfoldable pub word_cells : Form → Reported → Option Failure → List ℕ
word_cells form told found = next_cell form (said_of told found) ++ (next_cell form (advised_of told found) ++ 0x0A ∷ [])

-- the row of a refused record, by the first rule that its frame breaks
unfoldable pub row : Form → List ℕ → Reported → Located → List ℕ
row form library told frame =
    place_cells form library told.number frame
    ++ (name_cells form told.rule told.place frame.bytes ++ word_cells form told (broken_by frame))

-- the row of a reported frame, where the frame was found
abbrev pub row_of : Form → List ℕ → Reported → Option Located → List ℕ
row_of form library told None = []
row_of form library told (Some frame) = row form library told frame

-- the frame that a line of the report tells of, among the frames of the library's file
abbrev pub frame_of : List Located → Reported → Option Located
frame_of all told = slice_get all (told.number - 1)

-- a row for each refused record whose frame the file has
abbrev pub rows_of : Form → List ℕ → List Located → List Reported → List ℕ
rows_of form library all refused = flat_map (λ told. row_of form library told (frame_of all told)) refused

-- how many rows these are
abbrev pub row_count : List Located → List Reported → ℕ
row_count all [] = 0
row_count all (told ∷ rest) = (if is_some (frame_of all told) then 1 else 0) + row_count all rest

-- some line tells of no frame of this file
abbrev pub any_astray : List Located → List Reported → Bool
any_astray all refused = list_any (λ told. is_astray told (frame_of all told)) refused

-- what stands above the rows
abbrev pub heading : Form → List ℕ
heading Tabs = []
heading Csv = HEADING.now
