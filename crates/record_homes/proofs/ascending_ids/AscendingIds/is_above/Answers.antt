use Rattle.std.proofs.Common.{◌≡◌, ◌-◌, IsTrue, length, sym, ap, subst, ◌∙◌}
use Rattle.std.specs.Prelude.{Option, Some, ◌↔◌, slice_get}
use Rattle.std.specs.Ordering.{is_gt}
use Rattle.union_base.specs.RecordIds.{id_cmp}
use Rattle.record_homes.specs.Maps.{MapOf}
use Rattle.record_homes.specs.declared.place.Place.{Place}
use Rattle.record_homes.specs.TouchedIds.{TouchedIds, IsAbove}
use Rattle.record_homes.proofs.TouchedLaws.{above-last}
use Rattle.record_homes.proofs.ascending_ids.AscendingIds.is_above.Goals as goal

-- the last one alone is looked at
pub returns-in-Some : goal.returns-in-Some
returns-in-Some c =
    let id = c.args.id.now in
    let last = c.in-Some.field-0.now in
    let there = subst (λ (all : MapOf (Option Place)). slice_get all (length all - 1) ≡ Some last) c.as_slice.ensures.value (sym c.in-Some.ensures.value) in
    let greater : c.is_gt.result ≡ is_gt (id_cmp id last.0) = c.is_gt.ensures ∙ ap is_gt c.cmp.ensures in
    subst (λ b. IsTrue b ↔ IsAbove id c.args.self.now.entries) (sym greater)
    (subst (λ (ids : TouchedIds). IsTrue (is_gt (id_cmp id last.0)) ↔ IsAbove id ids.entries) c.self.view_is
    (above-last id c.self.inside.entries.items last c.self.invariant there))
