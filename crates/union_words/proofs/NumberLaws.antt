-- What `parse` gives for the numbers of the words.
use Rattle.std.proofs.Common.{◌≡◌, ◌<◌, ◌^◌, ℕ, true, IsTrue, List, length, Err, nat_lt, false, inl, inr, subst, rules, arith}
use Rattle.std.specs.Char.{is_ascii_digit}
use Rattle.std.specs.List.{list_all}
use Rattle.std.specs.Str.{IsUtf8}
use Rattle.std.specs.Str.Parse.{IsNumeral, ParsesUnsigned, digits_value, without_leading_plus}
use Rattle.std.proofs.lemmas.Str.Parse.{IsNumeralModel, numerals_by_value, parse_digits}
use Rattle.std.proofs.lemmas.Str.{IsUtf8-from_ascii}
use Rattle.std.proofs.lemmas.Fmt.{IsAscii-from_digits}
use Rattle.std.proofs.lemmas.Bool.{cases_lt, le-ltb}
use Rattle.std.proofs.lemmas.Bool.Decides.{nat_tests}
use Rattle.union_words.specs.Numbers.{is_number, value_of}

-- the test on digits tells the numerals of `parse`
pub digits_are_numerals : IsNumeralModel (λ ds. list_all is_ascii_digit ds ≡ true) (digits_value 10)
digits_are_numerals = numerals_by_value (λ ds. list_all is_ascii_digit ds ≡ true) (search rules)

pub digits_of_number : (text : List ℕ) → IsTrue (is_number text) → list_all is_ascii_digit text ≡ true
digits_of_number text h = grind (arith, nat_tests, h)

pub length_of_number : (text : List ℕ) → IsTrue (is_number text) → 0 < length text
length_of_number text h = grind (arith, nat_tests, h)

-- a number is UTF-8
pub utf8_of_number : (text : List ℕ) → IsTrue (is_number text) → IsUtf8 text
utf8_of_number text h =
    IsUtf8-from_ascii text (IsAscii-from_digits text (digits_are_numerals.to text (digits_of_number text h)))

-- where `parse` finds no number below 2^64 in the same text, the number is too large
pub too_large : (text digits : List ℕ) → text ≡ digits → IsTrue (is_number digits)
    → ¬ (IsNumeral 10 (without_leading_plus text) × (digits_value 10 (without_leading_plus text) < 2 ^ 64))
    → nat_lt (value_of digits) (2 ^ 64) ≡ false
too_large text digits same h none =
    let P : List ℕ → Type 0 = λ t. ParsesUnsigned {E = ℕ} 64 10 t (Err 0) in
    let never : ¬ ((0 < length digits) × (value_of digits < 2 ^ 64)) =
    parse_digits digits_are_numerals {E = ℕ} 64 digits (Err 0) (subst P same none) (digits_of_number digits h) in
    elim (cases_lt (value_of digits) (2 ^ 64))
    [ inl lt ↦ absurd (never (length_of_number digits h, lt)) | inr le ↦ le-ltb (value_of digits) (2 ^ 64) le ]
