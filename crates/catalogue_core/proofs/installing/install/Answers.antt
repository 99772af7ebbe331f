use Rattle.std.proofs.Common.{rules, List, Bor, map, refl, sym, ap, subst, ◌∙◌}
use Rattle.std.specs.Prelude.{Option, fold}
use Rattle.union_base.specs.declared.record_id.RecordId.{RecordId}
use Rattle.merge_laws.specs.Resolution.{AreApart}
use Rattle.swoosh_resolver.specs.Changes.{without}
use Rattle.swoosh_resolver.specs.Tables.{blocks_in, values_of}
use Rattle.catalogue_editions.specs.Matching.{match}
use Rattle.record_homes.specs.declared.place.Place.{Place}
use Rattle.edition_blocks.specs.Grouping.{kept_works, list_in, regrouped}
use Rattle.turn_plans.specs.Histories.{MapOf}
use Rattle.turn_plans.specs.Homes.{Block}
use Rattle.record_homes.specs.Moves.{admitted, others}
use Rattle.catalogue_core.specs.Housing.{housed_all}
use Rattle.catalogue_core.proofs.InstallLaws.{installed, planned-same, still-settled}
use Rattle.catalogue_core.proofs.StayLaws.{apart-opened}
use Rattle.catalogue_core.proofs.installing.install.Goals as goal

pub house_all-requires-clause-apart : goal.house_all-requires-clause-apart
house_all-requires-clause-apart c =
    let ready = c.in_ok-ready.ready in
    subst (λ (es : List Block). AreApart match (values_of es)) (sym c.as_slice.ensures.value)
    (apart-opened (blocks_in (without c.make_room.new.self.blocks ready.closed.items)) ready.opened.items c.in_ok-ready.ensures.fits.apart)

pub house_all-requires-clause-still : goal.house_all-requires-clause-still
house_all-requires-clause-still c =
    let rest : MapOf (Option Place) = map (λ (t : Bor RecordId × Option Place). (t.0.now, t.1)) c.in_ok-rest.rest.items in
    still-settled c.args.history.now.items c.args.homes.now.entries c.args.blocks.now.blocks (kept_works c.args.works.now) c.requires.kept
    c.args.plan.touched.entries c.requires.planned.touches
    c.admit.new.homes.entries (c.in_ok-rest.ensures.admitted ∙ ap (fold admitted c.args.homes.now.entries) c.in_ok-touched.ensures)
    rest (c.in_ok-rest.ensures.others ∙ ap (others c.args.homes.now.entries) c.in_ok-touched.ensures)
    c.move_all.new.homes.entries c.move_all.ensures
    c.make_room.new.self.blocks c.make_room.ensures.blocks

pub returns-clause-kept : goal.returns-clause-kept
returns-clause-kept c =
    let change = c.args.plan.change in
    let ready = c.in_ok-ready.ready in
    let closes = c.in_ok-ready.ensures.closed in
    let opens = c.in_ok-ready.ensures.opened in
    let planned = planned-same change.opened.items ready.opened.items (sym opens) (rw c.make_room.ensures.blocks at c.in_ok-ready.ensures.fits) (rw (← closes) at c.requires.planned) in
    let rest : MapOf (Option Place) = map (λ (t : Bor RecordId × Option Place). (t.0.now, t.1)) c.in_ok-rest.rest.items in
    installed c.args.history.now.items c.args.entry c.args.homes.now.entries c.args.blocks.now.blocks (kept_works c.args.works.now) c.requires.kept
    ready.closed.items ready.opened.items c.args.plan.touched.entries planned
    c.admit.new.homes.entries (c.in_ok-rest.ensures.admitted ∙ ap (fold admitted c.args.homes.now.entries) c.in_ok-touched.ensures)
    rest (c.in_ok-rest.ensures.others ∙ ap (others c.args.homes.now.entries) c.in_ok-touched.ensures)
    c.move_all.new.homes.entries c.move_all.ensures
    ready.numbers.items c.in_ok-ready.ensures.numbers
    c.house_all.new.homes.entries (c.house_all.ensures ∙ ap (λ (es : List Block). housed_all c.move_all.new.homes.entries es c.as_slice-2.result.now) c.as_slice.ensures.value ∙ ap (housed_all c.move_all.new.homes.entries ready.opened.items) c.as_slice-2.ensures.value)
    c.make_room.new.self.blocks c.make_room.ensures.blocks
    c.install.new.self.blocks c.install.ensures.kept c.install.ensures.opened c.install.ensures.view
    (record { names = c.args.works.now.names; works = list_in c.regroup.new.works }) refl
    (c.regroup.ensures ∙ ap (λ ws. regrouped ws c.in_ok-regrouped.regrouped) c.make_room_in_kept.ensures.same ∙ rw (closes, opens) c.in_ok-regrouped.ensures.change)
    c.reserve.new.self.items c.push.new.self.items c.reserve.ensures.items (search rules)
