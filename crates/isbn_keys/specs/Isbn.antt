-- ISBN (ISO 2108): a number of ten or thirteen characters, whose key has thirteen digits.
use Rattle.std.specs.Prelude.{ℕ, ◌==◌, ◌&&◌, ◌||◌, ◌+◌, ◌-◌, ◌%◌, Bool, not, if◌then◌else◌, Option, Some, None, List, [], ◌∷◌, ◌++◌, codes, filter, take, length, bytes_eq}
use Rattle.std.specs.List.{list_all}
use Rattle.std.specs.Char.{is_ascii_digit}
use Rattle.isbn_keys.specs.Text.{number_part}
use Rattle.isbn_keys.specs.Check.{weighted_sum, has_check_form}

-- the number as written, without hyphens
abbrev pub without_hyphens : List ℕ → List ℕ
without_hyphens = filter (λ c. not (c == 0x2D))

-- the weights of an ISBN of ten, first digit first (ISO 2108)
abbrev pub isbn10_weights : List ℕ
isbn10_weights = 10 ∷ 9 ∷ 8 ∷ 7 ∷ 6 ∷ 5 ∷ 4 ∷ 3 ∷ 2 ∷ 1 ∷ []

-- the weights of an ISBN of thirteen, first digit first (ISO 2108)
abbrev pub isbn13_weights : List ℕ
isbn13_weights = 1 ∷ 3 ∷ 1 ∷ 3 ∷ 1 ∷ 3 ∷ 1 ∷ 3 ∷ 1 ∷ 3 ∷ 1 ∷ 3 ∷ 1 ∷ []

-- nine digits and a digit or X, whose sum with the weights 10 down to 1 is divisible by 11
abbrev pub is_isbn10 : List ℕ → Bool
is_isbn10 cs = has_check_form 9 cs && (weighted_sum isbn10_weights cs % 11 == 0)

-- 978 or 979. ISO 2108 has both for books, but for 979-0, the prefix of printed music (ISMN): it is accepted here too, since the rule of
-- this project (docs/FORMATS.md) looks at the first three digits alone
abbrev pub begins_as_book : List ℕ → Bool
begins_as_book cs = bytes_eq (take 3 cs) (codes "978") || bytes_eq (take 3 cs) (codes "979")

-- thirteen digits that begin with 978 or 979, whose sum with the weights 1 and 3 in turn is divisible by 10
abbrev pub is_isbn13 : List ℕ → Bool
is_isbn13 cs =
    (length cs == 13)
    && list_all is_ascii_digit cs
    && begins_as_book cs
    && (weighted_sum isbn13_weights cs % 10 == 0)

-- the digit that makes the sum with the weights 1 and 3 divisible by 10
abbrev pub check_digit : List ℕ → ℕ
check_digit cs = 0x30 + (10 - weighted_sum isbn13_weights cs % 10) % 10

-- the thirteen digits of a number of ten: 978, its first nine digits and a new check digit
abbrev pub converted : List ℕ → List ℕ
converted cs = let stem = codes "978" ++ take 9 cs in stem ++ check_digit stem ∷ []

-- the key of an ISBN text, where it has one
abbrev pub isbn_key : List ℕ → Option (List ℕ)
isbn_key text =
    let cs = without_hyphens (number_part text) in
    if is_isbn10 cs then Some (converted cs) else
    (if is_isbn13 cs then Some cs else None)
