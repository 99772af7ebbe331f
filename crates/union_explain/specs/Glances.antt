-- What can be read of a refused frame, whose directory and fields may be damaged (ISO 2709, 'Directory').
use Rattle.std.specs.Prelude.{ℕ, ◌+◌, ◌-◌, ◌*◌, ◌/◌, Bool, ◌&&◌, ◌==◌, nat_le, List, [], length, take, drop, find, Option, Some, None, if◌then◌else◌, codes}
use Rattle.std.specs.List.{list_all, before_first}
use Rattle.marc_leader.specs.Entry.{start_place}
use Rattle.marc_leader.specs.Numeral.{are_digits, number_of}
use Rattle.marc_fields.specs.Rules.{entry_texts}
use Rattle.marc_parts.specs.Loads.{has_number_shape}
use Rattle.union_base.specs.Blanks.{trimmed}
use Rattle.union_words.specs.Words.{same_text}

-- the bytes after the leader up to the first field terminator, 0x1E
abbrev pub directory_of : List ℕ → List ℕ
directory_of frame = before_first (λ b. b == 0x1E) (drop 24 frame)

-- the entry of that number, counted from 1; a frame has no room for 9,999
abbrev pub entry_of : ℕ → List ℕ → Option (List ℕ)
entry_of number directory =
    (if nat_le 1 number && (nat_le number 9999 && nat_le (12 * number) (length directory))
    then Some (take 12 (drop (12 * number - 12) directory)) else None)

-- a byte that can be seen
abbrev pub is_graphic : ℕ → Bool
is_graphic b = nat_le 0x21 b && nat_le b 0x7E

-- the tag of an entry, where it can be shown
abbrev pub tag_in : Option (List ℕ) → List ℕ
tag_in None = []
tag_in (Some entry) = (if list_all is_graphic (take 3 entry) then take 3 entry else [])

-- the tag of the entry of that number
abbrev pub tag_of : ℕ → List ℕ → List ℕ
tag_of number frame = tag_in (entry_of number (directory_of frame))

-- an entry of field 001, the control number
abbrev pub is_control_entry : List ℕ → Bool
is_control_entry entry = same_text (take 3 entry) (codes "001")

-- where the entry's field starts after the base address, where that is a number
abbrev pub start_of : List ℕ → Option ℕ
start_of entry = (if are_digits (start_place entry) then Some (number_of (start_place entry)) else None)

-- a field that begins at an offset reaches to the next field terminator, 0x1E, or record terminator, 0x1D
abbrev pub field_at : ℕ → List ℕ → List ℕ
field_at at frame = before_first (λ b. b == 0x1D) (before_first (λ b. b == 0x1E) (drop at frame))

-- a control number without the blanks at its ends; nothing where that is none
abbrev pub number_text : List ℕ → List ℕ
number_text text = (if has_number_shape (trimmed text) then trimmed text else [])

-- the control number that starts this far after a base address
abbrev pub number_by : Option ℕ → ℕ → List ℕ → List ℕ
number_by None base frame = []
number_by (Some start) base frame = number_text (field_at (base + start) frame)

-- the control number in the field of an entry
abbrev pub number_in : Option (List ℕ) → ℕ → List ℕ → List ℕ
number_in None base frame = []
number_in (Some entry) base frame = number_by (start_of entry) base frame

-- the entries of a directory
abbrev pub entries_in : List ℕ → List (List ℕ)
entries_in directory = entry_texts (length directory / 12) directory

-- the control number by the first entry of a field 001; the data begin after the directory's terminator
abbrev pub control_number_of : List ℕ → List ℕ
control_number_of frame =
    number_in (find is_control_entry (entries_in (directory_of frame))) (25 + length (directory_of frame)) frame
