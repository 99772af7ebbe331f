use Rattle.std.proofs.Common.{◌≡◌, refl, sym, ap, subst, ◌∙◌}
use Rattle.std.specs.Prelude.{Option}
use Rattle.std.specs.BTreeMap.{insert_entry}
use Rattle.union_base.specs.RecordIds.{id_cmp}
use Rattle.record_homes.specs.Maps.{MapOf}
use Rattle.record_homes.specs.declared.place.Place.{Place}
use Rattle.record_homes.specs.HeldIds.{held_in}
use Rattle.record_homes.specs.TouchedIds.{TouchedIds, IsAbove}
use Rattle.record_homes.proofs.TouchedLaws.{insert-last, none-above}
use Rattle.record_homes.proofs.touched.Touched.insert.Goals as goal

pub returns-then-is_above-clause-old : goal.returns-then-is_above-clause-old
returns-then-is_above-clause-old c =
    let here : c.in-List.ids.entries ≡ c.args.self.now.entries = ap held_in (sym c.in-List.is) ∙ ap (λ (all : TouchedIds). all.entries) c.self.view_is in
    none-above c.args.id c.args.self.now.entries (subst (IsAbove c.args.id) here (c.if-is_above.ensures.0 refl))

pub returns-then-is_above-clause-entries : goal.returns-then-is_above-clause-entries
returns-then-is_above-clause-entries c =
    let here : c.in-List.ids.entries ≡ c.args.self.now.entries = ap held_in (sym c.in-List.is) ∙ ap (λ (all : TouchedIds). all.entries) c.self.view_is in
    c.in_ok-push-in-List.ensures
    ∙ sym (insert-last c.args.id c.args.place c.in-List.ids.entries (c.if-is_above.ensures.0 refl))
    ∙ ap (λ (all : MapOf (Option Place)). insert_entry id_cmp all c.args.id c.args.place) here
