-- The greater of two values by a total order in which only equal values tie: in any order, any number of times.
use Rattle.std.proofs.Common.{◌≡◌, refl, sym, ap, ◌∙◌, inl, inr}
use Rattle.std.specs.Prelude.{◌⊎◌}
use Rattle.std.specs.declared.cmp.Ordering.{Ordering}
use Rattle.std.specs.declared.cmp.Ordering.TheVariants.{Less, Equal, Greater}
use Rattle.std.specs.Ordering.{match_ordering, ordering_reverse}
use Rattle.std.specs.Cmp.{IsTotalOrder}
use Rattle.std.specs.FinMap.{IsAntisymmetric}
use Rattle.field_merge.specs.Merging.{greater}

module _ {K : Type 0} (R : K → K → Ordering) where
  -- the greater of a value and itself is that value
  pub greater-idempotent : (x : K) → greater R x x ≡ x
  greater-idempotent x = elim (R x x) as (λ r. match_ordering r x x x ≡ x) [ Less ↦ refl | Equal ↦ refl | Greater ↦ refl ]

  greater-above : (x y : K) → R x y ≡ Less → greater R x y ≡ y
  greater-above x y e = ap (λ r. match_ordering r y x x) e

  is_below : (r : Ordering) → (r ≡ Less) ⊎ (r ≡ Less → ⊥)
  is_below Less = inl refl
  is_below Equal = inr (λ e. cc)
  is_below Greater = inr (λ e. cc)

  kept : (r : Ordering) (x y : K) → (r ≡ Less → ⊥) → match_ordering r y x x ≡ x
  kept Less x y h = elim (h refl) [ ]
  kept Equal x y h = refl
  kept Greater x y h = refl

  greater-kept : (x y : K) → (R x y ≡ Less → ⊥) → greater R x y ≡ x
  greater-kept x y h = kept (R x y) x y h

  module _ (o : IsTotalOrder R) where
    -- x is not below y, nor y below z, so x is not below z
    not_below-trans : (x y z : K) → (R x y ≡ Less → ⊥) → (R y z ≡ Less → ⊥) → R x z ≡ Less → ⊥
    not_below-trans x y z h k e =
        elim (R x y) as (λ r. R x y ≡ r → ⊥) [
          | Less ↦ h
          | Equal ↦ λ f. k (sym (o.congr x y z f) ∙ e)
          | Greater ↦ λ f. k (o.trans y x z (o.antisymm y x ∙ ap ordering_reverse f) e)
        ] refl

    -- of three values the greatest is the same, whichever two are compared first
    pub greater-associative : (x y z : K) → greater R (greater R x y) z ≡ greater R x (greater R y z)
    greater-associative x y z =
        elim (is_below (R x y)) [
          | inl e ↦ ap (λ t. greater R t z) (greater-above x y e) ∙ elim (is_below (R y z)) [
            | inl f ↦ greater-above y z f ∙ sym (ap (greater R x) (greater-above y z f) ∙ greater-above x z (o.trans x y z e f))
            | inr f ↦ greater-kept y z f ∙ sym (ap (greater R x) (greater-kept y z f) ∙ greater-above x y e)
          ]
          | inr e ↦ ap (λ t. greater R t z) (greater-kept x y e) ∙ elim (is_below (R y z)) [
            | inl f ↦ sym (ap (greater R x) (greater-above y z f))
            | inr f ↦ greater-kept x z (not_below-trans x y z e f) ∙ sym (ap (greater R x) (greater-kept y z f) ∙ greater-kept x y e)
          ]
        ]

    module _ (ties : IsAntisymmetric R) where
      -- the greater of two values is the same either way round
      pub greater-commutative : (x y : K) → greater R x y ≡ greater R y x
      greater-commutative x y =
          elim (R x y) as (λ r. R x y ≡ r → match_ordering r y x x ≡ greater R y x) [
            | Less ↦ λ e. sym (ap (λ r. match_ordering r x y y) (o.antisymm y x ∙ ap ordering_reverse e))
            | Equal ↦ λ e. ties x y e ∙ sym (ap (λ r. match_ordering r x y y) (o.antisymm y x ∙ ap ordering_reverse e))
            | Greater ↦ λ e. sym (ap (λ r. match_ordering r x y y) (o.antisymm y x ∙ ap ordering_reverse e))
          ] refl
