-- A record's id is its library and its control number.
use Rattle.std.proofs.Common.{◌≡◌}
use Rattle.std.specs.declared.cmp.Ordering.TheVariants.{Equal}
use Rattle.std.specs.Ordering.{nat_cmp, ordering_then}
use Rattle.std.specs.Cmp.Lexicographic.{slice_cmp}
use Rattle.union_base.specs.declared.record_id.RecordId.{RecordId}
use Rattle.union_base.specs.Ties.{then_ties, texts_apart}

-- ids that compare equal are one
pub ids_apart : (x y : RecordId) → ordering_then (slice_cmp nat_cmp x.library y.library) (slice_cmp nat_cmp x.control y.control) ≡ Equal → x ≡ y
ids_apart x y e =
    let parts = then_ties (slice_cmp nat_cmp x.library y.library) (slice_cmp nat_cmp x.control y.control) e in
    λ i. record { library = texts_apart x.library y.library parts.0 i; control = texts_apart x.control y.control parts.1 i }
