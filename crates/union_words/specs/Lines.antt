-- The lines of a script or of a file of questions.
use Rattle.std.specs.Prelude.{ℕ, ◌-◌, Bool, true, not, ◌==◌, List, [], ◌∷◌, length, take, drop, map, filter, Option, Some, None, if◌then◌else◌}
use Rattle.std.specs.List.{slice_split}
use Rattle.union_words.specs.Words.{same_text}

-- a line without the carriage return at its end
abbrev pub without_return : List ℕ → List ℕ
without_return line = (if same_text (drop (length line - 1) line) (0x0D ∷ []) then take (length line - 1) line else line)

-- the lines of a text: each ends at a line feed or at the end of the text, so nothing after the last line feed is an
-- empty line
abbrev pub lines_of : List ℕ → List (List ℕ)
lines_of text = map without_return (slice_split (λ b. b == 0x0A) text)

-- an empty line, or one that begins with `#`
abbrev pub is_skipped : List ℕ → Bool
is_skipped [] = true
is_skipped (b ∷ rest) = b == 0x23

-- the lines of the text that is left, and none where nothing is left
abbrev pub lines_left : Option (List ℕ) → List (List ℕ)
lines_left None = []
lines_left (Some text) = lines_of text

-- the lines that are not skipped
abbrev pub kept : List (List ℕ) → List (List ℕ)
kept lines = filter (λ line. not (is_skipped line)) lines
