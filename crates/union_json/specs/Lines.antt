-- The lines of a text.
use Rattle.std.specs.Prelude.{ℕ, nat_le, Bool, ◌==◌, List, length, Option, Some, None, if◌then◌else◌}
use Rattle.std.specs.List.{slice_split}
use Rattle.union_words.specs.Lines.{without_return}

-- ends a line
abbrev pub is_feed : ℕ → Bool
is_feed b = b == 0x0A

-- the lines of a text as they stand there: each ends at a line feed or at the end of the text, so nothing after the last line
-- feed is an empty line
abbrev pub raw_lines : List ℕ → List (List ℕ)
raw_lines text = slice_split is_feed text

-- the most bytes of a line; a carriage return at its end is one of them
abbrev pub longest_line : ℕ
longest_line = 1048576

-- a line without the carriage return at its end, where it has no more bytes than that
abbrev pub line_within : List ℕ → Option (List ℕ)
line_within raw = (if nat_le (length raw) longest_line then Some (without_return raw) else None)
