-- Whose cataloguing is trusted: some libraries, best first.
use Rattle.std.specs.Prelude.{ℕ, ◌-◌, Bool, true, ◌&&◌, ◌==◌, not, nat_eq, nat_le, if◌then◌else◌, List, [], ◌∷◌, length, Option, Some, None}
use Rattle.std.specs.List.{list_all, list_any, position, slice_split}
use Rattle.std.specs.Option.{option_map_or}
use Rattle.std.specs.Cmp.Lexicographic.{pointwise}
use Rattle.union_base.specs.LibraryCodes.{is_library_code}

-- the most codes
abbrev pub most_codes : ℕ
most_codes = 64

-- the code is one of these
abbrev pub has_code : List (List ℕ) → List ℕ → Bool
has_code codes code = list_any (λ other. pointwise nat_eq other code) codes

-- no code twice
abbrev pub are_distinct : List (List ℕ) → Bool
are_distinct [] = true
are_distinct (code ∷ codes) = not (has_code codes code) && are_distinct codes

-- distinct library codes, 64 at most
abbrev pub are_preferred : List (List ℕ) → Bool
are_preferred codes = (nat_le (length codes) most_codes && list_all is_library_code codes) && are_distinct codes

-- the texts between the commas
abbrev pub texts_between_commas : List ℕ → List (List ℕ)
texts_between_commas text = slice_split (λ b. b == 0x2C) text

-- the preference of a text: 1 to 64 distinct library codes with one comma between two. An empty text is no code, so a preference
-- that was read is not empty
abbrev pub preference_of : List ℕ → Option (List (List ℕ))
preference_of text = (if are_preferred (texts_between_commas text) then Some (texts_between_commas text) else None)

-- 64 less the place of the library among the codes, counted from 0, and 0 where it is not there
abbrev pub level : List (List ℕ) → List ℕ → ℕ
level codes library = option_map_or (λ place. most_codes - place) (position (λ code. pointwise nat_eq code library) codes) 0
