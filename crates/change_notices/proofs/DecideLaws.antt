-- Whether two editions are equal can be decided.
use Rattle.std.proofs.Common.{◌≡◌, ℕ, List, [], ◌∷◌, Contains, refl, sym, ap, subst, ◌∙◌, inl, inr, arith}
use Rattle.std.specs.Prelude.{◌⊎◌}
use Rattle.std.specs.declared.cmp.Ordering.{Ordering}
use Rattle.std.specs.declared.cmp.Ordering.TheVariants.{Less, Equal, Greater}
use Rattle.std.specs.Ordering.{ordering_reverse}
use Rattle.std.specs.Option.{option_cmp}
use Rattle.std.specs.Cmp.{IsTotalOrder}
use Rattle.std.specs.Cmp.Lexicographic.{slice_cmp, lists_total, nat_list_cmp_total}
use Rattle.std.specs.FinMap.{IsAntisymmetric, slice_cmp-IsAntisymmetric}
use Rattle.union_base.specs.IdLaws.{ids_apart}
use Rattle.union_base.specs.Ties.{texts_apart}
use Rattle.union_base.specs.FieldOrder.{field_cmp}
use Rattle.union_base.specs.FieldLaws.{field_cmp-IsAntisymmetric}
use Rattle.merge_laws.proofs.Places.{Contains-head, Contains-tail, Contains-cases}
use Rattle.match_features.specs.Kept.{texts_cmp, pairs_cmp}
use Rattle.match_features.specs.KeptLaws.{pairs_total, pairs_tie}
use Rattle.match_features.specs.JoinLaws.{same_features}
use Rattle.match_features.specs.declared.features.Features.{Features}
use Rattle.union_base.specs.RecordIds.{id_cmp}
use Rattle.field_merge.specs.KeptLaws.{id_total, field_total}
use Rattle.field_merge.specs.Orders.{slot_cmp, fixed_cmp}
use Rattle.field_merge.specs.OrderLaws.{slot_total, slots_apart, fixed_total, fixed_apart, optional_slot_total, optional_slots_apart}
use Rattle.field_merge.specs.Equal.{same_contents}
use Rattle.field_merge.specs.declared.content.Content.{Content}
use Rattle.catalogue_editions.specs.Equal.{same_editions}
use Rattle.catalogue_editions.specs.declared.edition.Edition.{Edition}

abbrev Decided : Type 0 → Type 0
Decided P = P ⊎ (P → ⊥)

own-reverse : (r : Ordering) → r ≡ ordering_reverse r → r ≡ Equal
own-reverse Less h = cc
own-reverse Equal h = refl
own-reverse Greater h = cc

by-order : {K : Type 0} (R : K → K → Ordering) → IsTotalOrder R → IsAntisymmetric R → (x y : K) → Decided (x ≡ y)
by-order R o ties x y =
    let tie : x ≡ y → R x y ≡ Equal = λ e. ap (R x) (sym e) ∙ own-reverse (R x x) (o.antisymm x x) in
    elim (R x y) as (λ r. R x y ≡ r → Decided (x ≡ y)) [
      | Less ↦ λ is. inr (λ e. let clash : Less ≡ Equal = sym is ∙ tie e in cc)
      | Equal ↦ λ is. inl (ties x y is)
      | Greater ↦ λ is. inr (λ e. let clash : Greater ≡ Equal = sym is ∙ tie e in cc)
    ] refl

both : {P Q : Type 0} → Decided P → Decided Q → Decided (P × Q)
both (inl p) (inl q) = inl (p, q)
both (inl p) (inr q) = inr (λ h. q h.1)
both (inr p) d = inr (λ h. p h.0)

either : {P Q : Type 0} → (P → Q) → (Q → P) → Decided P → Decided Q
either there back (inl p) = inl (there p)
either there back (inr p) = inr (λ q. p (back q))

same-texts : (x y : List (List ℕ)) → Decided (x ≡ y)
same-texts = by-order (slice_cmp texts_cmp) (lists_total nat_list_cmp_total) (slice_cmp-IsAntisymmetric texts_apart)

decided-features : (x y : Features) → Decided (x ≡ y)
decided-features x y =
    either
    (λ h. same_features x y (record {
      control = h.0.0.0.0.0.0;
      types = h.0.0.0.0.0.1;
      isbns = h.0.0.0.0.1;
      issns = h.0.0.0.1;
      titles = h.0.0.1;
      dates = h.0.1;
      names = h.1;
    }))
    (λ e. ((((((ap (λ (z : Features). z.control) e, ap (λ (z : Features). z.types) e), ap (λ (z : Features). z.isbns) e), ap (λ (z : Features). z.issns) e), ap (λ (z : Features). z.titles) e), ap (λ (z : Features). z.dates) e), ap (λ (z : Features). z.names) e))
    (both (both (both (both (both (both (by-order (slice_cmp pairs_cmp) (lists_total pairs_total) (slice_cmp-IsAntisymmetric pairs_tie) x.control y.control)
    (same-texts x.types y.types)) (same-texts x.isbns y.isbns)) (same-texts x.issns y.issns)) (same-texts x.titles y.titles)) (same-texts x.dates y.dates)) (same-texts x.names y.names))

decided-contents : (x y : Content) → Decided (x ≡ y)
decided-contents x y =
    let slot = by-order (option_cmp slot_cmp) optional_slot_total optional_slots_apart in
    either
    (λ h. same_contents x y (record {
      contributors = h.0.0.0.0.0.0.0.0;
      fixed = h.0.0.0.0.0.0.0.1;
      f005 = h.0.0.0.0.0.0.1;
      f010 = h.0.0.0.0.0.1;
      f040 = h.0.0.0.0.1;
      f1xx = h.0.0.0.1;
      f240 = h.0.0.1;
      f245 = h.0.1;
      united = h.1;
    }))
    (λ e. ((((((((ap (λ (z : Content). z.contributors) e, ap (λ (z : Content). z.fixed) e), ap (λ (z : Content). z.f005) e), ap (λ (z : Content). z.f010) e), ap (λ (z : Content). z.f040) e), ap (λ (z : Content). z.f1xx) e), ap (λ (z : Content). z.f240) e), ap (λ (z : Content). z.f245) e), ap (λ (z : Content). z.united) e))
    (both (both (both (both (both (both (both (both (by-order (slice_cmp id_cmp) (lists_total id_total) (slice_cmp-IsAntisymmetric ids_apart) x.contributors y.contributors)
    (by-order fixed_cmp fixed_total fixed_apart x.fixed y.fixed)) (slot x.f005 y.f005)) (slot x.f010 y.f010)) (slot x.f040 y.f040)) (slot x.f1xx y.f1xx)) (slot x.f240 y.f240))
    (by-order slot_cmp slot_total slots_apart x.f245 y.f245)) (by-order (slice_cmp field_cmp) (lists_total field_total) (slice_cmp-IsAntisymmetric field_cmp-IsAntisymmetric) x.united y.united))

decided-editions : (x y : Edition) → Decided (x ≡ y)
decided-editions x y =
    either (λ h. same_editions x y h.0 h.1) (λ e. (ap (λ (z : Edition). z.features) e, ap (λ (z : Edition). z.content) e))
    (both (decided-features x.features y.features) (decided-contents x.content y.content))

-- whether an edition is a member of a list
pub decided-member : (xs : List Edition) (e : Edition) → Contains xs e ⊎ (Contains xs e → ⊥)
decided-member [] e = inr (λ (k, kl, is). omega arith)
decided-member (x ∷ xs) e =
    elim (decided-editions x e) [
      | inl same ↦ inl (subst (Contains (x ∷ xs)) same (Contains-head x xs))
      | inr other ↦ elim (decided-member xs e) [
        | inl later ↦ inl (Contains-tail x xs e later)
        | inr none ↦ inr (λ c. elim (Contains-cases x xs e c) [ inl same ↦ other same | inr later ↦ none later ])
      ]
    ]
