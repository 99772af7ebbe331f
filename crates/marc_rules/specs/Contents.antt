-- The rules on status and character coding (MARC 21, leader/05 and leader/09; which of them are refused, and the places, are
-- this project's own).
use Rattle.std.specs.Prelude.{ℕ, Bool, not, ◌&&◌, ◌||◌, ◌==◌, nat_le, List, Option, None, Some, if◌then◌else◌}
use Rattle.std.specs.List.{list_all}
use Rattle.std.specs.Str.{is_utf8}
use Rattle.marc_leader.specs.declared.entry.Entry.{Entry}
use Rattle.marc_fields.specs.Rows.{unless, least_where_not, fails, or_then}
use Rattle.marc_fields.specs.Rules.{text_of}
use Rattle.marc_parts.specs.Loads.{is_plain}
use Rattle.marc_fields.specs.declared.rules.Failure.{Failure}
use Rattle.marc_fields.specs.declared.rules.Rule.TheVariants.{Status, Coding, NotUtf8}

-- increase in encoding level, corrected, deleted, new, increase from prepublication
abbrev pub is_status : ℕ → Bool
is_status status = ((((status == 0x61) || (status == 0x63)) || (status == 0x64)) || (status == 0x6E)) || (status == 0x70)

-- the entry's text is plain
abbrev pub is_plain_at : List ℕ → Entry → Bool
is_plain_at bytes e = is_plain (text_of bytes e)

-- the entry's text is UTF-8
abbrev pub is_utf8_at : List ℕ → Entry → Bool
is_utf8_at bytes e = is_utf8 (text_of bytes e)

-- under a blank each field is plain; `a` is looked at by the next rule; nothing else is a coding
abbrev pub coding_place : ℕ → List ℕ → List Entry → Option ℕ
coding_place coding bytes entries =
    (if coding == 0x61 then None else (if coding == 0x20 then least_where_not (is_plain_at bytes) 1 entries else Some 0))

-- under `a` each field is UTF-8
abbrev pub utf8_place : ℕ → List ℕ → List Entry → Option ℕ
utf8_place coding bytes entries = (if coding == 0x61 then least_where_not (is_utf8_at bytes) 1 entries else None)

-- rule Coding, and then rule NotUtf8
abbrev pub coding_failure : ℕ → List ℕ → List Entry → Option Failure
coding_failure coding bytes entries = or_then (fails Coding (coding_place coding bytes entries)) (fails NotUtf8 (utf8_place coding bytes entries))

-- rule Status, and then the rules on the coding
unfoldable pub content_failure : ℕ → ℕ → List ℕ → List Entry → Option Failure
content_failure status coding bytes entries = or_then (fails Status (unless (is_status status))) (coding_failure coding bytes entries)
