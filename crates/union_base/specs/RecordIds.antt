-- The order of record ids, and finite maps from them.
use Rattle.std.specs.Prelude.{List, Option}
use Rattle.std.specs.declared.cmp.Ordering.{Ordering}
use Rattle.std.specs.Ordering.{nat_cmp, then_cmp, on}
use Rattle.std.specs.Cmp.Lexicographic.{slice_cmp}
use Rattle.std.specs.BTreeMap.{is_at}
use Rattle.std.specs.Map.{lookup}
use Rattle.union_base.specs.declared.record_id.RecordId.{RecordId}

-- by library, then by control number
abbrev pub id_cmp : RecordId → RecordId → Ordering
id_cmp = then_cmp (on (λ id. id.library) (slice_cmp nat_cmp)) (on (λ id. id.control) (slice_cmp nat_cmp))

-- a finite map from ids: its pairs in the order of the ids
abbrev pub MapOf : Type 0 → Type 0
MapOf X = List (RecordId × X)

-- the value under the id
abbrev pub at_id : {X : Type 0} → MapOf X → RecordId → Option X
at_id all id = lookup (is_at (id_cmp id)) all
