-- How the contributors of an edition stand in its features.
use Rattle.std.specs.Prelude.{ℕ, Bool, List, ◌++◌, codes}
use Rattle.std.specs.List.{list_all}
use Rattle.union_base.specs.SortedLists.{has}
use Rattle.union_base.specs.declared.record_id.RecordId.{RecordId}
use Rattle.match_features.specs.Kept.{pairs_cmp}

-- a library's own number: under the source `=LIB`
abbrev pub own_pair : RecordId → List ℕ × List ℕ
own_pair id = (codes "=" ++ id.library, id.control)

-- the control pairs have the own pair of each id
abbrev pub are_linked : List RecordId → List (List ℕ × List ℕ) → Bool
are_linked ids pairs = list_all (λ id. has pairs_cmp pairs (own_pair id)) ids
