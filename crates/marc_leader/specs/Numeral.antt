-- Whole numbers as ISO 2709 writes them: ASCII decimal digits, with leading zeros to a fixed width.
use Rattle.std.specs.Prelude.{ℕ, zero, suc, ◌+◌, ◌-◌, ◌*◌, ◌/◌, ◌%◌, Bool, List, [], ◌∷◌, ◌++◌}
use Rattle.std.specs.Char.{is_ascii_digit}
use Rattle.std.specs.List.{list_all}

-- each byte of the text is a digit
abbrev pub are_digits : List ℕ → Bool
are_digits text = list_all is_ascii_digit text

-- the number that the digits of the text spell, after a number that stands before them
abbrev pub number_after : ℕ → List ℕ → ℕ
number_after n [] = n
number_after n (b ∷ rest) = number_after (10 * n + (b - 48)) rest

-- the number that the digits of the text spell
abbrev pub number_of : List ℕ → ℕ
number_of text = number_after 0 text

-- the last `width` decimal digits of the number
abbrev pub numeral : ℕ → ℕ → List ℕ
numeral zero n = []
numeral (suc width) n = numeral width (n / 10) ++ (48 + n % 10) ∷ []
