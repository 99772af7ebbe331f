-- The bytes of numbers in digits, and of the texts that are made of them.
use Rattle.std.proofs.Common.{◌≡◌, ℕ, zero, suc, ◌+◌, ◌/◌, ◌%◌, ◌<◌, Bool, true, List, [], ◌∷◌, ◌++◌, refl, ◌∙◌, arith}
use Rattle.std.specs.Prelude.{nat_lt, codes}
use Rattle.std.proofs.lemmas.Bool.{and_from}
use Rattle.std.proofs.lemmas.Bool.Decides.{nat_tests}
use Rattle.std.proofs.lemmas.List.Folds.{list_all-append}
use Rattle.std.specs.List.{list_all}
use Rattle.isbn_keys.specs.Isbn.{check_digit}
use Rattle.marc_leader.specs.Codes.{is_printable}
use Rattle.marc_leader.specs.Numeral.{numeral}
use Rattle.union_base.specs.Fields.{is_text_byte}
use Rattle.union_trial.specs.TrialRecords.{fixed_text, isbn_stem, isbn_text}

-- what each digit passes, a number's digits pass
pub numeral-all : (p : ℕ → Bool) → ((d : ℕ) → d < 10 → p (48 + d) ≡ true) → (width n : ℕ) → list_all p (numeral width n) ≡ true
numeral-all p each zero n = refl
numeral-all p each (suc width) n =
    list_all-append p (numeral width (n / 10)) ((48 + n % 10) ∷ [])
    ∙ and_from (list_all p (numeral width (n / 10))) (list_all p ((48 + n % 10) ∷ [])) (numeral-all p each width (n / 10))
    (and_from (p (48 + n % 10)) true (each (n % 10) (omega arith)) refl)

all_append : (p : ℕ → Bool) (xs ys : List ℕ) → list_all p xs ≡ true → list_all p ys ≡ true → list_all p (xs ++ ys) ≡ true
all_append p xs ys one other = list_all-append p xs ys ∙ and_from (list_all p xs) (list_all p ys) one other

-- so what digits and the other bytes pass, the texts pass
module _ (p : ℕ → Bool) (digit : (d : ℕ) → d < 10 → p (48 + d) ≡ true) where
  pub fixed-all : list_all p (codes "240101s") ≡ true → list_all p (codes "    xx                  eng d") ≡ true → (year : ℕ) → list_all p (fixed_text year) ≡ true
  fixed-all front back year =
      all_append p (codes "240101s") (numeral 4 year ++ codes "    xx                  eng d") front (all_append p (numeral 4 year) (codes "    xx                  eng d") (numeral-all p digit 4 year) back)

  stem-all : list_all p (codes "978") ≡ true → (number : ℕ) → list_all p (isbn_stem number) ≡ true
  stem-all front number = all_append p (codes "978") (numeral 9 number) front (numeral-all p digit 9 number)

  pub isbn-all : list_all p (codes "978") ≡ true → (number : ℕ) → list_all p (isbn_text number) ≡ true
  isbn-all front number =
      all_append p (isbn_stem number) (check_digit (isbn_stem number) ∷ []) (stem-all front number)
      (and_from (p (check_digit (isbn_stem number))) true (digit _ (omega arith)) refl)

  pub named-all : (front : List ℕ) → list_all p front ≡ true → (number : ℕ) → list_all p (front ++ numeral 8 number) ≡ true
  named-all front passes number = all_append p front (numeral 8 number) passes (numeral-all p digit 8 number)

-- digits are bytes of a text, print and are ASCII
pub digit-text : (d : ℕ) → d < 10 → is_text_byte (48 + d) ≡ true
digit-text d less = grind (arith, nat_tests)

pub digit-prints : (d : ℕ) → d < 10 → is_printable (48 + d) ≡ true
digit-prints d less = grind (arith, nat_tests)

pub digit-low : (d : ℕ) → d < 10 → nat_lt (48 + d) 128 ≡ true
digit-low d less = grind (arith, nat_tests)
