-- What holds of check digits.
use Rattle.std.specs.Prelude.{ℕ, ◌≡◌, ◌↔◌, ◌%◌, IsTrue, List, [], ◌∷◌, ◌++◌, length}
use Rattle.std.specs.Char.{is_ascii_digit}
use Rattle.isbn_keys.specs.Check.{weighted_sum}
use Rattle.isbn_keys.specs.Isbn.{isbn13_weights, is_isbn10, is_isbn13, check_digit, converted}

-- of the digits 0 to 9 only the check digit makes the weighted sum of thirteen divisible by 10
abbrev pub CheckDigitDivides : Type 0
CheckDigitDivides = (stem : List ℕ) (digit : ℕ) → length stem ≡ 12 → IsTrue (is_ascii_digit digit)
    → (weighted_sum isbn13_weights (stem ++ digit ∷ []) % 10 ≡ 0) ↔ (digit ≡ check_digit stem)

-- an ISBN of ten is converted to an ISBN of thirteen
abbrev pub ConvertedIsIsbn : Type 0
ConvertedIsIsbn = (cs : List ℕ) → IsTrue (is_isbn10 cs) → IsTrue (is_isbn13 (converted cs))
