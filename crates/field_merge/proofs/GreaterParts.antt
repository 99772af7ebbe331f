-- The greater of two values is one of them.
use Rattle.std.proofs.Common.{◌≡◌, refl, inl, inr}
use Rattle.std.specs.Prelude.{◌⊎◌}
use Rattle.std.specs.declared.cmp.Ordering.{Ordering}
use Rattle.std.specs.declared.cmp.Ordering.TheVariants.{Less, Equal, Greater}
use Rattle.std.specs.Ordering.{match_ordering}
use Rattle.field_merge.specs.Merging.{greater}

-- it is one of the two
pub greater-either : {K : Type 0} (R : K → K → Ordering) (x y : K) → (greater R x y ≡ x) ⊎ (greater R x y ≡ y)
greater-either R x y =
    elim (R x y) as (λ r. (match_ordering r y x x ≡ x) ⊎ (match_ordering r y x x ≡ y)) [ Less ↦ inr refl | Equal ↦ inl refl | Greater ↦ inl refl ]
