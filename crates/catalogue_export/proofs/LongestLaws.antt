-- The walk back to where a character begins finds the longest prefix, and so does the walk along fields that fit.
use Rattle.std.proofs.Common.{◌≡◌, ℕ, zero, suc, ◌+◌, ◌*◌, ◌-◌, ◌<◌, ◌≤◌, Bool, true, false, ◌||◌, ◌==◌, List, [], ◌∷◌, length, take, length-append, refl, sym, ap, subst, ◌∙◌, arith}
use Rattle.std.specs.Prelude.{if◌then◌else◌, nat_le, slice_index}
use Rattle.std.specs.List.{flat_map}
use Rattle.std.proofs.lemmas.Bool.Decides.{nat_tests}
use Rattle.std.proofs.lemmas.List.{length-take}
use Rattle.union_base.specs.declared.field.Field.{Field}
use Rattle.marc_fields.specs.Spelling.{stored}
use Rattle.catalogue_export.specs.Exported.{begins_character, last_boundary, front_within}
use Rattle.catalogue_export.specs.Fitting.{taken_by, fitting_in}
use Rattle.catalogue_export.specs.Longest.{is_between, IsLongestFront, FrontIsLongest, FittingIsLongest}
use Rattle.catalogue_export.proofs.FittingLaws.{yes_le, is_le, fitting_in-bound}

below_it : (m n : ℕ) → nat_le m n ≡ false → n < m
below_it m n h = grind (arith, nat_tests)

same_number : (n : ℕ) → (n == n) ≡ true
same_number n = grind (arith, nat_tests)

or_first : (a b c : Bool) → a ≡ true → (a || b || c) ≡ true
or_first true b c h = refl
or_first false b c h = cc

or_second : (a b c : Bool) → b ≡ true → (a || b || c) ≡ true
or_second true b c h = refl
or_second false true c h = refl
or_second false false c h = cc

or_third : (a b c : Bool) → c ≡ true → (a || b || c) ≡ true
or_third true b c h = refl
or_third false true c h = refl
or_third false false c h = h

-- one of three tests that pass where one of them does
only_third : (a b c : Bool) → (a || b || c) ≡ true → a ≡ false → b ≡ false → c ≡ true
only_third true b c h p q = cc
only_third false true c h p q = cc
only_third false false c h p q = h

-- ---- the front of a text

boundary-bound : (text : List ℕ) (at : ℕ) → last_boundary text at ≤ at
boundary-bound text zero = omega arith
boundary-bound text (suc at) =
    elim (begins_character (slice_index text (suc at))) as (λ r. (if r then suc at else last_boundary text at) ≤ suc at) [
      | true ↦ omega arith
      | false ↦ omega (arith, boundary-bound text at)
    ]

boundary-between : (text : List ℕ) (at : ℕ) → is_between text (last_boundary text at) ≡ true
boundary-between text zero = refl
boundary-between text (suc at) =
    elim (begins_character (slice_index text (suc at))) as (λ r. begins_character (slice_index text (suc at)) ≡ r
    → is_between text (if r then suc at else last_boundary text at) ≡ true) [
      | true ↦ λ e. or_third (suc at == 0) (suc at == length text) (begins_character (slice_index text (suc at))) e
      | false ↦ λ e. boundary-between text at
    ] refl

boundary-greatest : (text : List ℕ) (at n : ℕ) → n ≤ at → begins_character (slice_index text n) ≡ true → n ≤ last_boundary text at
boundary-greatest text zero n h e = h
boundary-greatest text (suc at) n h e =
    elim (begins_character (slice_index text (suc at))) as (λ r. begins_character (slice_index text (suc at)) ≡ r
    → n ≤ (if r then suc at else last_boundary text at)) [
      | true ↦ λ is. h
      | false ↦ λ is. elim (nat_le n at) as (λ r. nat_le n at ≡ r → n ≤ last_boundary text at) [
        | true ↦ λ low. boundary-greatest text at n (is_le n at low) e
        | false ↦ λ high.
            let last : n ≡ suc at = omega (arith, h, below_it n at high) in
            let clash : true ≡ false = sym e ∙ ap (λ m. begins_character (slice_index text m)) last ∙ is in cc
      ] refl
    ] refl

take-all : (text : List ℕ) → text ≡ take (length text) text
take-all [] = refl
take-all (b ∷ bs) = ap (λ rest. b ∷ rest) (take-all bs)

other_number : (m n : ℕ) → m < n → (m == n) ≡ false
other_number m n h = grind (arith, nat_tests)

not_first : (n : ℕ) → (suc n == 0) ≡ false
not_first n = grind (arith, nat_tests)

-- a place between two characters that is not behind `most` is not behind the last of them
between-bound : (text : List ℕ) (most size : ℕ) → most < length text → size ≤ most → is_between text size ≡ true → size ≤ last_boundary text most
between-bound text most zero over fits at = omega arith
between-bound text most (suc n) over fits at =
    boundary-greatest text most (suc n) fits
    (only_third (suc n == 0) (suc n == length text) (begins_character (slice_index text (suc n))) at (not_first n) (other_number (suc n) (length text) (omega (arith, over, fits))))

whole-longest : (most : ℕ) (text : List ℕ) → length text ≤ most → IsLongestFront most text text
whole-longest most text fits = record {
  prefix = take-all text;
  fits = fits;
  between = or_second (length text == 0) (length text == length text) (begins_character (slice_index text (length text))) (same_number (length text));
  longest = λ size within small at. within;
}

cut-longest : (most : ℕ) (text : List ℕ) → most < length text → IsLongestFront most text (take (last_boundary text most) text)
cut-longest most text over =
    let at = last_boundary text most in
    let size : length (take at text) ≡ at = omega (arith, length-take at text, boundary-bound text most, over) in
    record {
      prefix = ap (λ n. take n text) (sym size);
      fits = omega (arith, size, boundary-bound text most);
      between = subst (λ n. is_between text n ≡ true) (sym size) (boundary-between text most);
      longest = λ n within small between. omega (arith, size, between-bound text most n over small between);
    }

pub front-longest : FrontIsLongest
unfolding front_within
front-longest most text =
    elim (nat_le (length text) most) as (λ r. nat_le (length text) most ≡ r → IsLongestFront most text (if r then text else take (last_boundary text most) text)) [
      | true ↦ λ e. whole-longest most text (is_le (length text) most e)
      | false ↦ λ e. cut-longest most text (below_it (length text) most e)
    ] refl

-- ---- the fields that fit

fitting_in-prefix : (room : ℕ) (fields : List Field) → fitting_in room fields ≡ take (length (fitting_in room fields)) fields
fitting_in-prefix room [] = refl
fitting_in-prefix room (f ∷ fields) =
    let rest = fitting_in (room - taken_by f) fields in
    elim (nat_le (taken_by f) room) as (λ r. (if r then f ∷ rest else []) ≡ take (length (if r then f ∷ rest else [])) (f ∷ fields)) [
      | true ↦ ap (λ xs. f ∷ xs) (fitting_in-prefix (room - taken_by f) fields)
      | false ↦ refl
    ]

fitting_in-longest : (room count : ℕ) (fields : List Field) → count ≤ length fields → 12 * count + length (flat_map stored (take count fields)) ≤ room
    → count ≤ length (fitting_in room fields)
fitting_in-longest room zero fields within fits = omega arith
fitting_in-longest room (suc count) [] within fits = within
fitting_in-longest room (suc count) (f ∷ fields) within fits =
    let rest = fitting_in (room - taken_by f) fields in
    let both = length-append (stored f) (flat_map stored (take count fields)) in
    let here : taken_by f ≤ room = omega (arith, fits, both) in
    let more : count ≤ length rest =
    fitting_in-longest (room - taken_by f) count fields (omega (arith, within)) (omega (arith, fits, both)) in
    subst (λ r. suc count ≤ length (if r then f ∷ rest else [])) (sym (yes_le (taken_by f) room here)) (omega (arith, more))

pub fitting-longest : FittingIsLongest
fitting-longest codes fields = record {
  prefix = fitting_in-prefix 99973 fields;
  fits = omega (arith, fitting_in-bound 99973 fields);
  longest = λ count within fits. fitting_in-longest 99973 count fields within (omega (arith, length-take count fields, within, fits));
}
