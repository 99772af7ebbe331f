-- A text cut at the first byte that passes a test.
use Rattle.std.proofs.Common.{◌≡◌, ℕ, suc, ◌+◌, ◌-◌, ◌<◌, ◌||◌, Bool, true, false, cond, not, List, [], ◌∷◌, take, drop, take_all, length, length-drop, refl, arith}
use Rattle.std.specs.List.{list_any, position_or_len}

none_by : (first : Bool) (n len : ℕ) (rest : Bool) → cond (not first) (1 + n) 0 ≡ suc len → (n ≡ len → rest ≡ false) → (first || rest) ≡ false
none_by true n len rest e none = absurd (omega arith)
none_by false n len rest e none = none (omega arith)

some_by : (first : Bool) (n len : ℕ) (rest : Bool) → cond (not first) (1 + n) 0 < suc len → (n < len → rest ≡ true) → (first || rest) ≡ true
some_by true n len rest h some = refl
some_by false n len rest h some = some (omega arith)

-- where no place passes, none is found
pub list_any-none : (p : ℕ → Bool) (xs : List ℕ) → position_or_len p xs ≡ length xs → list_any p xs ≡ false
list_any-none p [] e = refl
list_any-none p (x ∷ xs) e = none_by (p x) (position_or_len p xs) (length xs) (list_any p xs) e (list_any-none p xs)

-- where a place passes, one is found
pub list_any-some : (p : ℕ → Bool) (xs : List ℕ) → position_or_len p xs < length xs → list_any p xs ≡ true
list_any-some p [] h = absurd (omega arith)
list_any-some p (x ∷ xs) h = some_by (p x) (position_or_len p xs) (length xs) (list_any p xs) h (list_any-some p xs)

-- the slice from a place on
pub slice_rest : (bs : List ℕ) (i : ℕ) → take (length bs - i) (drop i bs) ≡ drop i bs
slice_rest bs i = take_all (length bs - i) (drop i bs) (omega (arith, length-drop i bs))
