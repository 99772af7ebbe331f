use Rattle.std.proofs.Common.{◌≡◌, sym, ap, ◌∙◌}
use Rattle.std.specs.Prelude.{Some, None}
use Rattle.std.specs.Option.{option_map, option_and_then}
use Rattle.edition_blocks.specs.Grouping.{kept_works}
use Rattle.turn_plans.specs.Histories.{at_id, current}
use Rattle.turn_plans.specs.Keeping.{batches, loaded_at}
use Rattle.record_homes.specs.declared.home.Home.{Home}
use Rattle.catalogue_core.specs.Catalogues.{CatalogueValue}
use Rattle.catalogue_core.proofs.NamedLaws.{base-is}
use Rattle.catalogue_core.proofs.catalogue.Catalogue.base.Goals as goal

pub returns-in-Some : goal.returns-in-Some
returns-in-Some c =
    let x = c.self.inside in
    let id = c.args.id.now in
    let home = c.in-Some.home in
    let at : at_id x.homes.entries id ≡ Some home = sym c.get.ensures ∙ c.in-Some.is in
    c.loaded_at.ensures ∙ ap (λ turns. loaded_at (batches turns) home.place) c.deref.ensures.value
    ∙ ap (λ o. option_and_then (loaded_at (batches x.history.items)) (option_map (λ (h : Home). h.place) o)) (sym at)
    ∙ base-is x.history.items x.homes.entries x.blocks.blocks (kept_works x.works) c.self.invariant id ∙ ap (λ (v : CatalogueValue). at_id (current v.history) id) c.self.view_is

pub returns-in-None : goal.returns-in-None
returns-in-None c =
    let x = c.self.inside in
    let id = c.args.id.now in
    let at : at_id x.homes.entries id ≡ None = sym c.get.ensures ∙ c.in-None.is in
    ap (λ o. option_and_then (loaded_at (batches x.history.items)) (option_map (λ (h : Home). h.place) o)) (sym at)
    ∙ base-is x.history.items x.homes.entries x.blocks.blocks (kept_works x.works) c.self.invariant id ∙ ap (λ (v : CatalogueValue). at_id (current v.history) id) c.self.view_is
