-- Numbers as the words give them.
use Rattle.std.specs.Prelude.{ℕ, ◌-◌, ◌^◌, Bool, false, ◌&&◌, ◌==◌, not, nat_le, List, [], ◌∷◌, length, take, drop, Option, Some, None, if◌then◌else◌, codes}
use Rattle.std.specs.List.{list_all}
use Rattle.std.specs.Option.{option_and_then}
use Rattle.std.specs.Char.{is_ascii_digit}
use Rattle.std.specs.Str.Parse.{digits_value}
use Rattle.union_base.specs.Alike.{same_text}

-- a zero stands before another digit
abbrev pub has_leading_zero : List ℕ → Bool
has_leading_zero [] = false
has_leading_zero (b ∷ []) = false
has_leading_zero (b ∷ more ∷ rest) = b == 0x30

-- one or more decimal digits, without sign and without leading zero
abbrev pub is_number : List ℕ → Bool
is_number text = (nat_le 1 (length text) && list_all is_ascii_digit text) && not (has_leading_zero text)

-- the number that the digits write
abbrev pub value_of : List ℕ → ℕ
value_of digits = digits_value 10 digits

-- the number of the text, where it is one from `least` to `most`
abbrev pub number_within : ℕ → ℕ → List ℕ → Option ℕ
number_within least most text =
    (if is_number text && (nat_le least (value_of text) && nat_le (value_of text) most) then Some (value_of text) else None)

-- the most workers
abbrev pub most_workers : ℕ
most_workers = 64

-- the most records that are generated
abbrev pub most_generated : ℕ
most_generated = 200000

-- how many workers
abbrev pub workers_of : List ℕ → Option ℕ
workers_of text = number_within 1 most_workers text

-- how many records are generated
abbrev pub count_of : List ℕ → Option ℕ
count_of text = number_within 1 most_generated text

-- the number with which the generator begins: 0 to 2^64 - 1
abbrev pub seed_of : List ℕ → Option ℕ
seed_of text = number_within 0 (2 ^ 64 - 1) text

-- what stands after the name of an option, where the word begins with it
abbrev pub option_text : List ℕ → List ℕ → Option (List ℕ)
option_text name word = (if same_text (take (length name) word) name then Some (drop (length name) word) else None)

-- a word `--workers=N`
abbrev pub workers_word : List ℕ → Option ℕ
workers_word word = option_and_then workers_of (option_text (codes "--workers=") word)
