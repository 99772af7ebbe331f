-- The rules on which fields a record has, and how often (MARC 21, 001, 008, 245 and 'Repeatability'; the places are this project's
-- own).
use Rattle.std.specs.Prelude.{ℕ, suc, ◌-◌, Bool, true, false, ◌||◌, ◌==◌, nat_eq, List, [], ◌∷◌, ◌++◌, length, slice_index_or, codes, Option, None, Some, if◌then◌else◌}
use Rattle.std.specs.List.{list_any}
use Rattle.std.specs.Option.{option_map_or}
use Rattle.std.specs.Cmp.Lexicographic.{pointwise}
use Rattle.marc_leader.specs.declared.entry.Entry.{Entry}
use Rattle.marc_fields.specs.Rows.{fails, or_then}
use Rattle.marc_fields.specs.Rules.{text_of}
use Rattle.marc_fields.specs.declared.rules.Failure.{Failure}
use Rattle.marc_fields.specs.declared.rules.Rule.TheVariants.{ControlNumber, Repeated, Fixed008, Title245}
use Rattle.marc_parts.specs.Loads.{has_number_shape}
use Rattle.union_base.specs.Blanks.{trimmed}
use Rattle.marc_rules.specs.declared.required_fields.NotOne.{NotOne}
use Rattle.marc_rules.specs.declared.required_fields.NotOne.TheVariants.{Missing, Second}
use Rattle.marc_rules.specs.declared.required_fields.SingleClass.{SingleClass}
use Rattle.marc_rules.specs.declared.required_fields.SingleClass.TheVariants.{NumberSource, LatestChange, CongressNumber, CatalogingSource, UniformTitle, MainEntry}

-- the two tags are one
abbrev pub is_same : List ℕ → List ℕ → Bool
is_same tag other = pointwise nat_eq tag other

-- the numbers of the entries with that tag, counted from that one
abbrev pub places : List ℕ → ℕ → List Entry → List ℕ
places tag i [] = []
places tag i (e ∷ entries) = (if is_same e.tag tag then i ∷ places tag (suc i) entries else places tag (suc i) entries)

-- why the entries at these places are not one: there is none, or a second
abbrev pub not_one : List ℕ → Option NotOne
not_one [] = Some Missing
not_one (i ∷ []) = None
not_one (i ∷ j ∷ rest) = Some (Second j)

-- the place at which they are refused: 0 where there is none, else the second
abbrev pub place_of : NotOne → ℕ
place_of Missing = 0
place_of (Second place) = place

-- where a field that must occur exactly once is refused: 0 if there is none, the second one's place if there are more, and its own place
-- if it is the only one and does not pass
abbrev pub once : (ℕ → Bool) → List ℕ → Option ℕ
once passes [] = Some (place_of Missing)
once passes (i ∷ []) = (if passes i then None else Some i)
once passes (i ∷ j ∷ rest) = Some (place_of (Second j))

-- what stands for an entry where there is none
abbrev pub no_entry : Entry
no_entry = record { tag = []; length = 0; start = 0 }

-- the text of the entry at that place, counted from 1
abbrev pub text_at : List ℕ → List Entry → ℕ → List ℕ
text_at bytes entries i = text_of bytes (slice_index_or entries (i - 1) no_entry)

-- a control number has 1 to 64 printable bytes; blanks may stand before it and after it
abbrev pub is_control_number : List ℕ → Bool
is_control_number text = has_number_shape (trimmed text)

-- the tag 001
abbrev pub tag_001 : List ℕ
tag_001 = codes "001"

-- the tag 008
abbrev pub tag_008 : List ℕ
tag_008 = codes "008"

-- the tag 245
abbrev pub tag_245 : List ℕ
tag_245 = codes "245"

-- where rule ControlNumber fails: there is not exactly one 001, or its text is no control number
abbrev pub control_number_place : List ℕ → List Entry → Option ℕ
control_number_place bytes entries = once (λ i. is_control_number (text_at bytes entries i)) (places tag_001 1 entries)

-- where rule Fixed008 fails: there is not exactly one 008, or its text has not 40 bytes
abbrev pub fixed_008_place : List ℕ → List Entry → Option ℕ
fixed_008_place bytes entries = once (λ i. length (text_at bytes entries i) == 40) (places tag_008 1 entries)

-- where rule Title245 fails: there is not exactly one 245. marc_parts asks for the same of a record (specs/Loads.antt), without a place
abbrev pub title_245_place : List Entry → Option ℕ
title_245_place entries = once (λ i. true) (places tag_245 1 entries)

-- the class of fields of which a record may have one, by the tag: 003, 005, 010, 040, 240 each, and the main entries together
abbrev pub class_of : List ℕ → Option SingleClass
class_of tag =
    (if is_same tag (codes "003") then Some NumberSource
    else (if is_same tag (codes "005") then Some LatestChange
    else (if is_same tag (codes "010") then Some CongressNumber
    else (if is_same tag (codes "040") then Some CatalogingSource
    else (if is_same tag (codes "240") then Some UniformTitle
    else (if ((is_same tag (codes "100") || is_same tag (codes "110")) || is_same tag (codes "111"))
    || is_same tag (codes "130") then Some MainEntry else None))))))

-- the class's place among the six
abbrev pub number_of : SingleClass → ℕ
number_of NumberSource = 0
number_of LatestChange = 1
number_of CongressNumber = 2
number_of CatalogingSource = 3
number_of UniformTitle = 4
number_of MainEntry = 5

-- the entry is of that class
abbrev pub is_of : SingleClass → Entry → Bool
is_of class e = option_map_or (λ other. number_of other == number_of class) (class_of e.tag) false

-- the entry is of a class, and an earlier entry is of the same class
abbrev pub repeats : List Entry → Entry → Bool
repeats earlier e = option_map_or (λ class. list_any (is_of class) earlier) (class_of e.tag) false

-- the least number of an entry that has an earlier entry of its class
abbrev pub repeated_from : List Entry → ℕ → List Entry → Option ℕ
repeated_from earlier i [] = None
repeated_from earlier i (e ∷ entries) = (if repeats earlier e then Some i else repeated_from (earlier ++ e ∷ []) (suc i) entries)

-- the rules on a record that is loaded
abbrev pub load_failure : List ℕ → List Entry → Option Failure
load_failure bytes entries =
    or_then (fails Repeated (repeated_from [] 1 entries))
    (or_then (fails Fixed008 (fixed_008_place bytes entries)) (fails Title245 (title_245_place entries)))

-- status `d` withdraws a record, and asks for its control number alone
unfoldable pub number_failure : ℕ → List ℕ → List Entry → Option Failure
number_failure status bytes entries =
    or_then (fails ControlNumber (control_number_place bytes entries)) (if status == 0x64 then None else load_failure bytes entries)
