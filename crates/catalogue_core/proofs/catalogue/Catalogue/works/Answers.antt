use Rattle.std.proofs.Common.{◌≡◌, List, ap, subst, ◌∙◌}
use Rattle.work_clusters.specs.Works.{works_of}
use Rattle.record_editions.specs.EditionKeys.{work_pairs}
use Rattle.catalogue_editions.specs.declared.edition.Edition.{Edition}
use Rattle.edition_blocks.specs.Grouping.{kept_works, list_in}
use Rattle.turn_plans.specs.Histories.{AreEditionsOf}
use Rattle.catalogue_core.proofs.Naming.{named_in}
use Rattle.catalogue_core.specs.Catalogues.{CatalogueValue}
use Rattle.catalogue_core.proofs.NamedLaws.{named-editions, works-in_order}
use Rattle.catalogue_core.proofs.catalogue.Catalogue.works.Goals as goal

pub returns-in-Some : goal.returns-in-Some
returns-in-Some c =
    let x = c.self.inside in
    let k = c.self.invariant in
    let all = named_in x.blocks.blocks x.homes.entries in
    subst (λ (v : CatalogueValue). (all : List Edition) × AreEditionsOf v.history all × (c.in-Some.works.works ≡ works_of (work_pairs v.names all))) c.self.view_is (
      all,
      named-editions x.history.items x.homes.entries x.blocks.blocks (kept_works x.works) k,
      k.clustered c.in-Some.works.works (ap list_in c.in-Some.is) ∙ works-in_order x.history.items x.homes.entries x.blocks.blocks (kept_works x.works) k,
    )

pub returns-in-Ok : goal.returns-in-Ok
returns-in-Ok c =
    let x = c.self.inside in
    let k = c.self.invariant in
    let all = named_in x.blocks.blocks x.homes.entries in
    subst (λ (v : CatalogueValue). (all : List Edition) × AreEditionsOf v.history all × (c.in-Ok.made.works ≡ works_of (work_pairs v.names all))) c.self.view_is
    (all, named-editions x.history.items x.homes.entries x.blocks.blocks (kept_works x.works) k, c.in-Ok.ensures ∙ works-in_order x.history.items x.homes.entries x.blocks.blocks (kept_works x.works) k)

pub returns-in-Err : goal.returns-in-Err
returns-in-Err c =
    let x = c.self.inside in
    let k = c.self.invariant in
    let all = named_in x.blocks.blocks x.homes.entries in
    subst (λ (v : CatalogueValue). (all : List Edition) × AreEditionsOf v.history all × Unit {0}) c.self.view_is
    (all, named-editions x.history.items x.homes.entries x.blocks.blocks (kept_works x.works) k, tt)
