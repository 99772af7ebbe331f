use Rattle.std.proofs.Common.{ap}
use Rattle.edition_blocks.specs.Grouping.{kept_works}
use Rattle.catalogue_core.specs.Catalogues.{CatalogueValue}
use Rattle.catalogue_core.proofs.ToldLaws.{kept-apart, delta-told_of}
use Rattle.catalogue_core.proofs.catalogue.Catalogue.apply_told.Goals as goal

pub delta_of-requires-clause-apart : goal.delta_of-requires-clause-apart
delta_of-requires-clause-apart g c =
    let x = c.self.inside in kept-apart x.history.items x.homes.entries x.blocks.blocks (kept_works x.works) c.self.invariant

pub returns-clause-delta : goal.returns-clause-delta
returns-clause-delta g c =
    let x = c.self.inside in
    let plan = c.in_ok-plan.plan in
    delta-told_of x.history.items c.args.self.now.history c.install.new.history.items (record { pass = c.args.number; batch = c.args.batch }) x.homes.entries x.blocks.blocks (kept_works x.works)
    c.self.invariant (ap (λ (v : CatalogueValue). v.history) c.self.view_is) c.in_ok-install.ensures.appended plan.change.closed.items plan.change.opened.items plan.touched.entries
    (rw c.deref.ensures.value at c.in_ok-plan.ensures.planned) c.in_ok-delta.delta.closed.items c.in_ok-delta.delta.opened.items c.in_ok-delta.ensures
