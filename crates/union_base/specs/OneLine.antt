-- Texts as they are shown on one line.
use Rattle.std.specs.Prelude.{ℕ, ◌==◌, ◌||◌, nat_lt, if◌then◌else◌, List, map}

-- a byte as it is shown: a blank for a control character, which could end a line
abbrev pub shown_byte : ℕ → ℕ
shown_byte b = (if nat_lt b 0x20 || (b == 0x7F) then 0x20 else b)

-- a text as it is shown
abbrev pub shown : List ℕ → List ℕ
shown text = map shown_byte text
