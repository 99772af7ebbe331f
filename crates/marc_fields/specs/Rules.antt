-- The rules on leader, directory and fields: which fails first, and where (ISO 2709; MARC 21; the order and the places are
-- this project's own).
use Rattle.std.specs.Prelude.{◌≡◌, ◌≤◌, ℕ, zero, suc, ◌+◌, ◌-◌, ◌/◌, ◌%◌, Bool, true, not, ◌&&◌, ◌||◌, ◌==◌, nat_le, List, [], ◌∷◌, ◌++◌, length, take, drop, map, slice_index, Option, None, Some, if◌then◌else◌}
use Rattle.std.specs.List.{list_any}
use Rattle.marc_leader.specs.Entry.{tag_place, size_place, start_place, is_tag}
use Rattle.marc_leader.specs.Leader.{length_place, base_place, misfit}
use Rattle.marc_leader.specs.Numeral.{are_digits, number_of}
use Rattle.marc_leader.specs.declared.entry.Entry.{Entry}
use Rattle.union_base.specs.Fields.{field_terminator, record_terminator, is_control_tag}
use Rattle.marc_fields.specs.Rows.{unless, least_where_not, fails, or_then, any_from, all_from, ends_in_only}
use Rattle.marc_fields.specs.Shapes.{has_control_shape, has_data_shape}
use Rattle.marc_fields.specs.Spelling.{is_in, longest_frame}
use Rattle.marc_fields.specs.declared.rules.Failure.{Failure}
use Rattle.marc_fields.specs.declared.rules.Rule.TheVariants.{TooShort, LengthDigits, LengthDiffers, BaseAddress, LeaderCounts, EntryDigits, Tag, Tiling, ControlShape, DataShape}

-- the bytes are no more than a frame may have, and the only record terminator ends them
pub record IsFrame (frame : List ℕ) : Type 0 where
  pub size : length frame ≤ longest_frame
  pub ends : ends_in_only record_terminator frame ≡ true

-- the leader's 24 bytes
abbrev pub leader_of_frame : List ℕ → List ℕ
leader_of_frame frame = take 24 frame

-- the number in the leader's bytes 12 to 16
abbrev pub base_in : List ℕ → ℕ
base_in leader = number_of (base_place leader)

-- the base address of data that the frame's leader tells
abbrev pub base_of : List ℕ → ℕ
base_of frame = base_in (leader_of_frame frame)

-- the base address of a directory, after whose terminator the data begin
abbrev pub is_base : ℕ → List ℕ → Bool
is_base base frame =
    (nat_le 25 base && nat_le base (length frame - 1)) && (((base - 25) % 12 == 0) && (slice_index frame (base - 1) == field_terminator))

-- the leader tells a base address, and one that the frame can have
abbrev pub has_base : List ℕ → List ℕ → Bool
has_base leader frame = are_digits (base_place leader) && is_base (base_in leader) frame

-- rule TooShort: the frame has fewer than 26 bytes, those of a leader and its two terminators
abbrev pub too_short : List ℕ → Option Failure
too_short frame = fails TooShort (unless (nat_le 26 (length frame)))

-- rule LengthDigits: the record length is five digits
abbrev pub length_digits : List ℕ → Option Failure
length_digits leader = fails LengthDigits (unless (are_digits (length_place leader)))

-- rule LengthDiffers: the record length is the frame's
abbrev pub length_differs : List ℕ → List ℕ → Option Failure
length_differs leader frame = fails LengthDiffers (unless (number_of (length_place leader) == length frame))

-- rule BaseAddress: the base address is five digits and one that the frame can have
abbrev pub base_address : List ℕ → List ℕ → Option Failure
base_address leader frame = fails BaseAddress (unless (has_base leader frame))

-- rule LeaderCounts: the leader's counts and the entry map are those of MARC 21
abbrev pub leader_counts : List ℕ → Option Failure
leader_counts leader = fails LeaderCounts (misfit leader)

-- the first of the leader's rules that fails
unfoldable pub leader_failure : List ℕ → List ℕ → Option Failure
leader_failure leader frame =
    or_then (length_digits leader) (or_then (length_differs leader frame) (or_then (base_address leader frame) (leader_counts leader)))

-- the first rule that fails at the frame's head: it is long enough for a leader, and then the leader's rules
unfoldable pub head_failure : List ℕ → Option Failure
head_failure frame = or_then (too_short frame) (leader_failure (leader_of_frame frame) frame)

-- this many texts of 12 bytes
abbrev pub entry_texts : ℕ → List ℕ → List (List ℕ)
entry_texts zero directory = []
entry_texts (suc n) directory = take 12 directory ∷ entry_texts n (drop 12 directory)

-- the entry that stands in 12 bytes
abbrev pub entry_in : List ℕ → Entry
entry_in text = record { tag = tag_place text; length = number_of (size_place text); start = number_of (start_place text) }

-- the directory's texts
abbrev pub texts_of : List ℕ → List (List ℕ)
texts_of frame = entry_texts ((base_of frame - 25) / 12) (take (base_of frame - 25) (drop 24 frame))

-- the data
abbrev pub data_in : List ℕ → List ℕ
data_in frame = take (length frame - 1 - base_of frame) (drop (base_of frame) frame)

-- the rules on the directory
abbrev pub has_digits : List ℕ → Bool
has_digits text = are_digits (size_place text) && are_digits (start_place text)

-- the entry begins with a tag
abbrev pub has_tag : List ℕ → Bool
has_tag text = is_tag (tag_place text)

-- the first rule that fails in the directory's entries: EntryDigits at any of them, and then Tag
unfoldable pub directory_failure : List (List ℕ) → Option Failure
directory_failure texts = or_then (fails EntryDigits (least_where_not has_digits 1 texts)) (fails Tag (least_where_not has_tag 1 texts))

-- the entry's range of the data
abbrev pub range_of : List ℕ → Entry → List ℕ
range_of bytes e = take e.length (drop e.start bytes)

-- the entry's range is inside the data and ends in its only field terminator
abbrev pub is_tile : List ℕ → Entry → Bool
is_tile bytes e = nat_le (e.start + e.length) (length bytes) && ends_in_only field_terminator (range_of bytes e)

-- the byte at that offset is in the range of one of the entries
abbrev pub is_owned : List Entry → ℕ → Bool
is_owned entries at = list_any (is_in at) entries

-- the entry's range shares a byte with that of one of the entries
abbrev pub shares : List Entry → Entry → Bool
shares entries e = any_from (is_owned entries) e.start e.length

-- the least place of an entry that is no tile or shares a byte with an earlier one
abbrev pub tiling_from : List ℕ → List Entry → ℕ → List Entry → Option ℕ
tiling_from bytes earlier i [] = None
tiling_from bytes earlier i (e ∷ entries) =
    (if is_tile bytes e && not (shares earlier e) then tiling_from bytes (earlier ++ e ∷ []) (suc i) entries else Some i)

-- no entry is so, and a byte is in no range: the place after the last entry
abbrev pub covering : List ℕ → List Entry → Option ℕ
covering bytes entries = (if all_from (is_owned entries) 0 (length bytes) then None else Some (suc (length entries)))

-- the rule on the ranges
unfoldable pub tiling_failure : List ℕ → List Entry → Option Failure
tiling_failure bytes entries = or_then (fails Tiling (tiling_from bytes [] 1 entries)) (fails Tiling (covering bytes entries))

-- the field's bytes, without the terminator
abbrev pub text_of : List ℕ → Entry → List ℕ
text_of bytes e = take (e.length - 1) (drop e.start bytes)

-- the entry has no control tag, or its text has the shape of a control field
abbrev pub is_control_shaped : List ℕ → Entry → Bool
is_control_shaped bytes e = not (is_control_tag e.tag) || has_control_shape (text_of bytes e)

-- the entry has a control tag, or its text has the shape of a data field
abbrev pub is_data_shaped : List ℕ → Entry → Bool
is_data_shaped bytes e = is_control_tag e.tag || has_data_shape (text_of bytes e)

-- the rules on the shape of fields
unfoldable pub shape_failure : List ℕ → List Entry → Option Failure
shape_failure bytes entries =
    or_then (fails ControlShape (least_where_not (is_control_shaped bytes) 1 entries)) (fails DataShape (least_where_not (is_data_shaped bytes) 1 entries))

-- the rules on the data of entries
abbrev pub data_failure : List ℕ → List Entry → Option Failure
data_failure bytes entries = or_then (tiling_failure bytes entries) (shape_failure bytes entries)

-- the rules on the directory and the data
abbrev pub parts_failure : List (List ℕ) → List ℕ → Option Failure
parts_failure texts bytes = or_then (directory_failure texts) (data_failure bytes (map entry_in texts))

-- the first rule that fails of those on what a frame has to be to spell a record
unfoldable pub first_failure : List ℕ → Option Failure
first_failure frame = or_then (head_failure frame) (parts_failure (texts_of frame) (data_in frame))
