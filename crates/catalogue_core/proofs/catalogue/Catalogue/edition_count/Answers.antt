use Rattle.std.proofs.Common.{◌≡◌, List, length, subst, ◌∙◌}
use Rattle.edition_blocks.specs.Grouping.{kept_works}
use Rattle.turn_plans.specs.Histories.{AreEditionsOf}
use Rattle.catalogue_core.proofs.Naming.{named_in}
use Rattle.catalogue_editions.specs.declared.edition.Edition.{Edition}
use Rattle.catalogue_core.specs.Catalogues.{CatalogueValue}
use Rattle.catalogue_core.proofs.NamedLaws.{named-editions, named-count}
use Rattle.catalogue_core.proofs.catalogue.Catalogue.edition_count.Goals as goal

pub returns : goal.returns
returns c =
    let x = c.self.inside in
    let k = c.self.invariant in
    let all = named_in x.blocks.blocks x.homes.entries in
    subst (λ (v : CatalogueValue). (all : List Edition) × AreEditionsOf v.history all × (c.count.result ≡ length all)) c.self.view_is
    (all, named-editions x.history.items x.homes.entries x.blocks.blocks (kept_works x.works) k, c.count.ensures ∙ named-count x.history.items x.homes.entries x.blocks.blocks (kept_works x.works) k)
