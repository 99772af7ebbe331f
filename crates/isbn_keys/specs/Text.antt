-- Texts of bytes, cut and trimmed.
use Rattle.std.specs.Prelude.{ℕ, ◌==◌, ◌||◌, Bool, List, take, drop, length, bytes_eq}
use Rattle.std.specs.List.{prefix_len, before_first}
use Rattle.union_base.specs.Blanks.{blank}

-- the text without the bytes of this value at its beginning
abbrev pub without_leading : ℕ → List ℕ → List ℕ
without_leading byte text = drop (prefix_len (λ b. b == byte) text) text

-- a blank, ( or :, which end a number that a cataloguer put down
abbrev pub ends_number : ℕ → Bool
ends_number b = (b == blank) || (b == 0x28) || (b == 0x3A)

-- the text without blanks at its beginning, up to the first blank, ( or :, or to its end
abbrev pub number_part : List ℕ → List ℕ
number_part text = before_first ends_number (without_leading blank text)

-- the text begins with the prefix
abbrev pub begins_with : List ℕ → List ℕ → Bool
begins_with prefix text = bytes_eq (take (length prefix) text) prefix
