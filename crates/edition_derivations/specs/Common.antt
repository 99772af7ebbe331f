-- The values that two lists have in common.
use Rattle.std.specs.Prelude.{ℕ, find, filter, List, Option}
use Rattle.std.specs.declared.cmp.Ordering.{Ordering}
use Rattle.union_base.specs.SortedLists.{has}
use Rattle.match_features.specs.Kept.{texts_cmp}
use Rattle.match_features.specs.Meeting.{is_no_serial}

-- the first value of one list that stands in the other, too
abbrev pub first_common : {K : Type 0} → (K → K → Ordering) → List K → List K → Option K
first_common cmp xs ys = find (has cmp ys) xs

-- the first type of one list that is no serial's and stands in the other, too
abbrev pub first_common_but_serials : List (List ℕ) → List (List ℕ) → Option (List ℕ)
first_common_but_serials xs ys = first_common texts_cmp (filter is_no_serial xs) ys
