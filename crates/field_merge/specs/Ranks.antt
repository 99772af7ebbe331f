-- The rank of a record.
use Rattle.std.specs.Prelude.{ℕ, List, length, ◌==◌, ◌||◌, if◌then◌else◌, replicate, codes}
use Rattle.marc_parts.specs.declared.marc_record.Record.{Record}
use Rattle.marc_parts.specs.Parts.{text_under, control_number}
use Rattle.field_merge.specs.Preferences.{level}
use Rattle.field_merge.specs.declared.rank.Rank.{Rank}

-- how full a record of that encoding level is (MARC 21, leader/17)
abbrev pub class_of : ℕ → ℕ
class_of encoding =
    if encoding == 0x20 then 9  -- blank, full
    else if (encoding == 0x31) || (encoding == 0x49) then 8  -- 1, I
    else if encoding == 0x34 then 7  -- 4
    else if encoding == 0x32 then 6  -- 2
    else if (encoding == 0x37) || (encoding == 0x4B) then 5  -- 7, K
    else if encoding == 0x33 then 4  -- 3
    else if encoding == 0x35 then 3  -- 5
    else if (encoding == 0x38) || (encoding == 0x4D) then 2  -- 8, M
    else if encoding == 0x75 then 1  -- u
    else 0

-- a text of sixteen bytes, and sixteen `0` in place of any other
abbrev pub stamp_of : List ℕ → List ℕ
stamp_of text = if length text == 16 then text else replicate 16 0x30

-- the rank of a library's record, by a preference
abbrev pub rank : List (List ℕ) → List ℕ → Record → Rank
rank prefer library r = record {
  level = level prefer library;
  class = class_of r.leader.encoding;
  stamp = stamp_of (text_under (codes "005") r.fields);
  library = library;
  control = control_number r;
}
