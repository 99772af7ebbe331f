-- Check characters: weighted sums over the characters of a number.
use Rattle.std.specs.Prelude.{ℕ, ◌==◌, ◌&&◌, ◌||◌, ◌+◌, ◌-◌, ◌*◌, Bool, if◌then◌else◌, List, [], ◌∷◌, take, drop, length}
use Rattle.std.specs.List.{list_all}
use Rattle.std.specs.Char.{is_ascii_digit}

-- X in either case, which stands for ten
abbrev pub is_ten : ℕ → Bool
is_ten c = (c == 0x58) || (c == 0x78)

-- what a character counts
abbrev pub value_of : ℕ → ℕ
value_of c = if is_ten c then 10 else c - 0x30

-- the sum of the characters' values, each times its weight
abbrev pub weighted_sum : List ℕ → List ℕ → ℕ
weighted_sum [] cs = 0
weighted_sum (w ∷ ws) [] = 0
weighted_sum (w ∷ ws) (c ∷ cs) = w * value_of c + weighted_sum ws cs

-- n digits, and one more digit or an X
abbrev pub has_check_form : ℕ → List ℕ → Bool
has_check_form n cs =
    (length cs == n + 1)
    && list_all is_ascii_digit (take n cs)
    && list_all (λ c. is_ascii_digit c || is_ten c) (drop n cs)
