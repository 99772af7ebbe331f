-- Texts cut at a blank, or without the blanks at their ends. A blank is the byte 0x20 and no other.
use Rattle.std.specs.Prelude.{ℕ, ◌==◌, Bool, List, [], ◌∷◌, if◌then◌else◌}
use Rattle.std.specs.List.{before_first, after_first}

-- a blank
abbrev pub blank : ℕ
blank = 0x20

abbrev pub is_blank : ℕ → Bool
is_blank b = b == blank

-- up to the first blank, or to the end
abbrev pub first_word : List ℕ → List ℕ
first_word line = before_first is_blank line

-- after the first blank: nothing where there is none
abbrev pub rest_of : List ℕ → List ℕ
rest_of line = after_first is_blank line

-- the text without the blanks at its start
abbrev pub trim_start : List ℕ → List ℕ
trim_start [] = []
trim_start (b ∷ rest) = (if b == blank then trim_start rest else b ∷ rest)

-- a byte before a trimmed rest: a blank before nothing goes
abbrev pub before_trimmed : ℕ → List ℕ → List ℕ
before_trimmed b [] = (if b == blank then [] else b ∷ [])
before_trimmed b (c ∷ rest) = b ∷ c ∷ rest

-- the text without the blanks at its end
abbrev pub trim_end : List ℕ → List ℕ
trim_end [] = []
trim_end (b ∷ rest) = before_trimmed b (trim_end rest)

-- the text without the blanks at both ends
abbrev pub trimmed : List ℕ → List ℕ
trimmed text = trim_end (trim_start text)
