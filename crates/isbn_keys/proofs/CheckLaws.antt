-- Check digits make weighted sums whole.
use Rattle.std.proofs.Common.{◌≡◌, ℕ, ◌+◌, ◌-◌, ◌*◌, ◌%◌, ◌<◌, true, eqb-true, ◌&&◌, ◌||◌, IsTrue, List, [], ◌∷◌, ◌++◌, take, drop, length, refl, sym, ap, ◌∙◌, length-append, length-take, arith}
use Rattle.std.specs.Prelude.{◌==◌}
use Rattle.std.specs.Char.{is_ascii_digit}
use Rattle.std.specs.List.{list_all}
use Rattle.std.proofs.lemmas.Bool.{and_from}
use Rattle.std.proofs.lemmas.Bool.Decides.{nat_tests}
use Rattle.std.proofs.lemmas.List.Folds.{list_all-append}
use Rattle.union_base.specs.Both.{both_true, true_both}
use Rattle.isbn_keys.specs.Check.{is_ten, value_of, weighted_sum, has_check_form}
use Rattle.isbn_keys.specs.Isbn.{isbn10_weights, isbn13_weights, is_isbn10, is_isbn13, begins_as_book, check_digit, converted}

-- the first weights go with the first characters
weighted_sum-append : (vs ws cs ds : List ℕ) → length vs ≡ length cs → weighted_sum (vs ++ ws) (cs ++ ds) ≡ weighted_sum vs cs + weighted_sum ws ds
weighted_sum-append [] ws [] ds e = omega arith
weighted_sum-append [] ws (c ∷ cs) ds e = absurd (omega (arith, e))
weighted_sum-append (v ∷ vs) ws [] ds e = absurd (omega (arith, e))
weighted_sum-append (v ∷ vs) ws (c ∷ cs) ds e =
    let rest = weighted_sum-append vs ws cs ds (omega (arith, e)) in
    ap (λ n. v * value_of c + n) rest ∙ omega arith

-- the weights past the last character count nothing
weighted_sum-front : (vs ws cs : List ℕ) → length vs ≡ length cs → weighted_sum (vs ++ ws) cs ≡ weighted_sum vs cs
weighted_sum-front [] [] [] e = refl
weighted_sum-front [] (w ∷ ws) [] e = refl
weighted_sum-front [] ws (c ∷ cs) e = absurd (omega (arith, e))
weighted_sum-front (v ∷ vs) ws [] e = absurd (omega (arith, e))
weighted_sum-front (v ∷ vs) ws (c ∷ cs) e = ap (λ n. v * value_of c + n) (weighted_sum-front vs ws cs (omega (arith, e)))

abbrev twelve : List ℕ
twelve = 1 ∷ 3 ∷ 1 ∷ 3 ∷ 1 ∷ 3 ∷ 1 ∷ 3 ∷ 1 ∷ 3 ∷ 1 ∷ 3 ∷ []

-- the sum of twelve characters and one more
weighted_sum-one_more : (stem : List ℕ) (c : ℕ) → length stem ≡ 12 → weighted_sum isbn13_weights (stem ++ c ∷ []) ≡ weighted_sum isbn13_weights stem + value_of c
weighted_sum-one_more stem c e =
    let whole = weighted_sum-append twelve (1 ∷ []) stem (c ∷ []) (sym e) in
    let front = weighted_sum-front twelve (1 ∷ []) stem (sym e) in
    whole ∙ omega (arith, front)

value-digit : (d : ℕ) → d < 10 → value_of (48 + d) ≡ d
value-digit d less = grind (arith, nat_tests)

-- the check digit divides
pub check_digit-divides : (stem : List ℕ) → length stem ≡ 12 → weighted_sum isbn13_weights (stem ++ check_digit stem ∷ []) % 10 ≡ 0
check_digit-divides stem e =
    let sum = weighted_sum isbn13_weights stem in
    let value : value_of (check_digit stem) ≡ (10 - sum % 10) % 10 = value-digit ((10 - sum % 10) % 10) (omega arith) in
    omega (arith, weighted_sum-one_more stem (check_digit stem) e, value)

check_digit-digit : (stem : List ℕ) → is_ascii_digit (check_digit stem) ≡ true
check_digit-digit stem = digit ((10 - weighted_sum isbn13_weights stem % 10) % 10) (omega arith)
  where
    digit : (d : ℕ) → d < 10 → is_ascii_digit (48 + d) ≡ true
    digit d less = grind (arith, nat_tests)

-- an ISBN of ten is converted to one of thirteen
pub converted-is_isbn : (cs : List ℕ) → IsTrue (is_isbn10 cs) → IsTrue (is_isbn13 (converted cs))
converted-is_isbn cs h =
    let form = both_true (has_check_form 9 cs) (weighted_sum isbn10_weights cs % 11 == 0) h in
    let parts = both_true ((length cs == 10) && list_all is_ascii_digit (take 9 cs)) (list_all (λ c. is_ascii_digit c || is_ten c) (drop 9 cs)) form.0 in
    let sized = both_true (length cs == 10) (list_all is_ascii_digit (take 9 cs)) parts.0 in
    let stem = 57 ∷ 55 ∷ 56 ∷ take 9 cs in
    let few : length (take 9 cs) ≡ 9 = omega (arith, length-take 9 cs, eqb-true (length cs) 10 sized.0) in
    let stem_size : length stem ≡ 12 = omega (arith, few) in
    let size : length (converted cs) ≡ 13 = length-append stem (check_digit stem ∷ []) ∙ omega (arith, few) in
    let digits : list_all is_ascii_digit (converted cs) ≡ true =
    list_all-append is_ascii_digit stem (check_digit stem ∷ [])
    ∙ and_from (list_all is_ascii_digit stem) (list_all is_ascii_digit (check_digit stem ∷ [])) sized.1
    (and_from (is_ascii_digit (check_digit stem)) true (check_digit-digit stem) refl) in
    let whole : (weighted_sum isbn13_weights (converted cs) % 10 == 0) ≡ true = ap (λ n. n == 0) (check_digit-divides stem stem_size) in
    true_both _ (weighted_sum isbn13_weights (converted cs) % 10 == 0)
    (true_both ((length (converted cs) == 13) && list_all is_ascii_digit (converted cs)) (begins_as_book (converted cs))
    (true_both (length (converted cs) == 13) (list_all is_ascii_digit (converted cs)) (ap (λ n. n == 13) size) digits) refl) whole
