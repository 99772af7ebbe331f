-- An entry of the directory (ISO 2709, 'Directory'; MARC 21, 'Directory').
use Rattle.std.specs.Prelude.{ℕ, Bool, ◌&&◌, if◌then◌else◌, List, ◌++◌, take, slice_range, Result, Ok, Err}
use Rattle.std.specs.Char.{is_ascii_alphanumeric}
use Rattle.std.specs.List.{list_all}
use Rattle.marc_leader.specs.Numeral.{are_digits, number_of, numeral}
use Rattle.marc_leader.specs.declared.entry.Entry.{Entry}
use Rattle.marc_leader.specs.declared.entry.EntryRule.{EntryRule}
use Rattle.marc_leader.specs.declared.entry.EntryRule.TheVariants.{Digits, Tag}

-- the 12 bytes: the tag, the field's length and its starting position
abbrev pub entry_text : Entry → List ℕ
entry_text entry = entry.tag ++ numeral 4 entry.length ++ numeral 5 entry.start

-- each byte is an ASCII letter or digit
abbrev pub is_tag : List ℕ → Bool
is_tag text = list_all is_ascii_alphanumeric text

-- bytes 0 to 2, the tag
abbrev pub tag_place : List ℕ → List ℕ
tag_place text = take 3 text

-- bytes 3 to 6, the length of the field
abbrev pub size_place : List ℕ → List ℕ
size_place text = slice_range text 3 7

-- bytes 7 to 11, where the field starts
abbrev pub start_place : List ℕ → List ℕ
start_place text = slice_range text 7 12

-- the entry that stands in the 12 bytes, or the first rule that they break
abbrev pub entry_of : List ℕ → Result Entry EntryRule
entry_of text =
    (if are_digits (size_place text) && are_digits (start_place text)
    then (if is_tag (tag_place text)
    then Ok (record {
      tag = tag_place text;
      length = number_of (size_place text);
      start = number_of (start_place text);
    })
    else Err Tag)
    else Err Digits)
