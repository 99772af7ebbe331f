-- What records have in common, where each has a list of values.
use Rattle.std.specs.Prelude.{Bool, false, not, List, [], ◌∷◌, filter}
use Rattle.std.specs.List.{list_all, list_any}
use Rattle.std.specs.Ordering.{eq_by_cmp}
use Rattle.std.specs.declared.cmp.Ordering.{Ordering}
use Rattle.union_base.specs.SortedLists.{has}
use Rattle.match_features.specs.Kept.{has_some}

-- the value is in each of the lists
abbrev pub is_in_each : {K : Type 0} → (K → K → Ordering) → List (List K) → K → Bool
is_in_each cmp lists value = list_all (λ list. has cmp list value) lists

-- no value is in all of the lists; of no lists this is not said
abbrev pub share_none : {K : Type 0} → (K → K → Ordering) → List (List K) → Bool
share_none cmp [] = false
share_none cmp (first ∷ rest) = not (list_any (is_in_each cmp rest) first)

-- the lists that are not empty
abbrev pub told : {K : Type 0} → List (List K) → List (List K)
told lists = filter has_some lists

-- two of the values differ: one is not the first
abbrev pub differ : {K : Type 0} → (K → K → Ordering) → List K → Bool
differ cmp [] = false
differ cmp (first ∷ rest) = list_any (λ value. not (eq_by_cmp cmp first value)) rest
