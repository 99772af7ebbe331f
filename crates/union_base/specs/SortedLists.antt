-- Lists in ascending order and without repeats, as sets.
use Rattle.std.specs.Prelude.{Bool, true, ◌&&◌, List, [], ◌∷◌}
use Rattle.std.specs.declared.cmp.Ordering.{Ordering}
use Rattle.std.specs.Ordering.{is_lt, eq_by_cmp, match_ordering}
use Rattle.std.specs.List.{list_all, list_any}

-- each value is below all that follow it
abbrev pub is_ascending : {K : Type 0} → (K → K → Ordering) → List K → Bool
is_ascending cmp [] = true
is_ascending cmp (x ∷ xs) = list_all (λ y. is_lt (cmp x y)) xs && is_ascending cmp xs

-- with y at its place, unless it stands there already
abbrev pub put : {K : Type 0} → (K → K → Ordering) → K → List K → List K
put cmp y [] = y ∷ []
put cmp y (x ∷ xs) = match_ordering (cmp y x) (y ∷ x ∷ xs) (x ∷ xs) (x ∷ put cmp y xs)

-- the values of either list, in order, each once
abbrev pub union : {K : Type 0} → (K → K → Ordering) → List K → List K → List K
union cmp xs [] = xs
union cmp xs (y ∷ ys) = put cmp y (union cmp xs ys)

-- the values of a list, in order, each once
abbrev pub set_of : {K : Type 0} → (K → K → Ordering) → List K → List K
set_of cmp ys = union cmp [] ys

-- whether the value stands in the list
abbrev pub has : {K : Type 0} → (K → K → Ordering) → List K → K → Bool
has cmp xs q = list_any (eq_by_cmp cmp q) xs

-- whether some value stands in both lists
abbrev pub have_common : {K : Type 0} → (K → K → Ordering) → List K → List K → Bool
have_common cmp xs ys = list_any (has cmp ys) xs
