-- ISSN (ISO 3297): seven digits and a digit or X.
use Rattle.std.specs.Prelude.{ℕ, ◌==◌, ◌&&◌, ◌%◌, Bool, if◌then◌else◌, Option, Some, None, List, [], ◌∷◌, ◌++◌, take, drop, slice_index}
use Rattle.isbn_keys.specs.Text.{number_part}
use Rattle.isbn_keys.specs.Check.{is_ten, weighted_sum, has_check_form}

-- the number as written, without a hyphen after its fourth character
abbrev pub without_hyphen : List ℕ → List ℕ
without_hyphen part = if slice_index part 4 == 0x2D then take 4 part ++ drop 5 part else part

-- the weights of an ISSN, first digit first (ISO 3297)
abbrev pub issn_weights : List ℕ
issn_weights = 8 ∷ 7 ∷ 6 ∷ 5 ∷ 4 ∷ 3 ∷ 2 ∷ 1 ∷ []

-- seven digits and a digit or X, whose sum with the weights 8 down to 1 is divisible by 11
abbrev pub is_issn : List ℕ → Bool
is_issn cs = has_check_form 7 cs && (weighted_sum issn_weights cs % 11 == 0)

-- a capital X at the end for either
abbrev pub with_capital : List ℕ → List ℕ
with_capital cs = take 7 cs ++ (if is_ten (slice_index cs 7) then 0x58 else slice_index cs 7) ∷ []

-- the key of an ISSN text, where it has one
abbrev pub issn_key : List ℕ → Option (List ℕ)
issn_key text =
    let cs = without_hyphen (number_part text) in
    if is_issn cs then Some (with_capital cs) else None
