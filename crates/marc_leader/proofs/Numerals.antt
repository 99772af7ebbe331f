-- A number is what its numeral spells, and a text of digits is the numeral of what it spells.
use Rattle.std.proofs.Common.{◌≡◌, ℕ, zero, suc, ◌+◌, ◌-◌, ◌*◌, ◌/◌, ◌%◌, ◌^◌, ◌<◌, ◌≤◌, Bool, true, false, List, [], ◌∷◌, ◌++◌, length, refl, ◌∙◌, Some, None, cond, ap, arith, append_assoc}
use Rattle.std.proofs.Math.Nat.{pow-zero, pow-suc}
use Rattle.std.proofs.lemmas.Bool.Decides.{nat_tests}
use Rattle.std.proofs.lemmas.Bool.{and_parts, and_from}
use Rattle.std.proofs.lemmas.List.{append-nil}
use Rattle.std.specs.Char.{is_ascii_digit}
use Rattle.marc_leader.specs.Numeral.{are_digits, number_after, number_of, numeral}

-- a digit after a number
pub number_after-push : (n : ℕ) (text : List ℕ) (b : ℕ) → number_after n (text ++ b ∷ []) ≡ 10 * number_after n text + (b - 48)
number_after-push n [] b = refl
number_after-push n (x ∷ rest) b = number_after-push (10 * n + (x - 48)) rest b

-- a numeral spells its number
pub number_of-numeral : (width n : ℕ) → n < 10 ^ width → number_of (numeral width n) ≡ n
number_of-numeral zero n h = omega (arith, pow-zero 10)
number_of-numeral (suc width) n h =
    let high : n / 10 < 10 ^ width = omega (arith, pow-suc 10 width) in
    let front : number_of (numeral width (n / 10)) ≡ n / 10 = number_of-numeral width (n / 10) high in
    let last : number_after 0 (numeral width (n / 10) ++ (48 + n % 10) ∷ [])
    ≡ 10 * number_of (numeral width (n / 10)) + (48 + n % 10 - 48) = number_after-push 0 (numeral width (n / 10)) (48 + n % 10) in
    omega arith

-- a digit is between `0` and `9`
pub digit_range : (b : ℕ) → is_ascii_digit b ≡ true → (48 ≤ b) × (b ≤ 57)
digit_range b h = (grind (arith, nat_tests), grind (arith, nat_tests))

-- the last digit of a number is a digit
pub last_digit_is : (n : ℕ) → is_ascii_digit (48 + n % 10) ≡ true
last_digit_is n = grind (arith, nat_tests)

-- digits before a digit are digits
pub are_digits-push : (text : List ℕ) (b : ℕ) → are_digits text ≡ true → is_ascii_digit b ≡ true → are_digits (text ++ b ∷ []) ≡ true
are_digits-push [] b d h = rw h refl
are_digits-push (x ∷ rest) b d h =
    let both = and_parts (is_ascii_digit x) (are_digits rest) d in
    and_from (is_ascii_digit x) (are_digits (rest ++ b ∷ [])) both.0 (are_digits-push rest b both.1 h)

-- a numeral has digits alone
pub are_digits-numeral : (width n : ℕ) → are_digits (numeral width n) ≡ true
are_digits-numeral zero n = refl
are_digits-numeral (suc width) n = are_digits-push (numeral width (n / 10)) (48 + n % 10) (are_digits-numeral width (n / 10)) (last_digit_is n)

-- the numeral of a number and a digit
pub numeral-push : (k n b : ℕ) → is_ascii_digit b ≡ true → numeral (suc k) (10 * n + (b - 48)) ≡ numeral k n ++ b ∷ []
numeral-push k n b h =
    let range : (48 ≤ b) × (b ≤ 57) = digit_range b h in
    let high : (10 * n + (b - 48)) / 10 ≡ n = omega arith in
    let last : 48 + (10 * n + (b - 48)) % 10 ≡ b = omega arith in
    rw (high, last) refl

-- the numeral of what digits spell after a number is that number's numeral and the digits
pub numeral_after : (k n m : ℕ) (text : List ℕ) → are_digits text ≡ true → m ≡ k + length text
    → numeral m (number_after n text) ≡ numeral k n ++ text
numeral_after k n m [] d h = let e : m ≡ k = omega arith in rw (e, append-nil) refl
numeral_after k n m (b ∷ rest) d h =
    let both = and_parts (is_ascii_digit b) (are_digits rest) d in
    let e : m ≡ suc k + length rest = omega arith in
    numeral_after (suc k) (10 * n + (b - 48)) m rest both.1 e
    ∙ (ap (λ front. front ++ rest) (numeral-push k n b both.0) ∙ append_assoc (numeral k n) (b ∷ []) rest)

-- a text of digits is the numeral of what it spells
pub numeral-number_of : (width : ℕ) (text : List ℕ) → are_digits text ≡ true → length text ≡ width → numeral width (number_of text) ≡ text
numeral-number_of width text d h =
    let e : width ≡ 0 + length text = omega arith in
    numeral_after 0 0 width text d e

-- where a number was told, the test was passed and it is that number
pub told : (test : Bool) (n m : ℕ) → Some n ≡ cond test (Some m) None → (test ≡ true) × (n ≡ m)
told true n m h = (refl, cc)
told false n m h = cc

-- where no number was told, the test failed
pub untold : (test : Bool) (m : ℕ) → None ≡ cond test (Some m) None → test ≡ false
untold true m h = cc
untold false m h = refl
