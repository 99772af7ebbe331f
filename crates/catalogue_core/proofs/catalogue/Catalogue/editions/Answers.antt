use Rattle.std.proofs.Common.{◌≡◌, Bor, List, map, subst}
use Rattle.std.specs.Prelude.{IfOk}
use Rattle.catalogue_editions.specs.declared.edition.Edition.{Edition}
use Rattle.catalogue_editions.proofs.Apart.{ordered-from_sorted}
use Rattle.swoosh_resolver.specs.Tables.{blocks_in, values_of}
use Rattle.edition_blocks.specs.Grouping.{kept_works}
use Rattle.turn_plans.specs.Histories.{AreEditionsOf, bases}
use Rattle.catalogue_core.proofs.Naming.{named_in}
use Rattle.catalogue_core.specs.Catalogues.{CatalogueValue}
use Rattle.edition_blocks.proofs.ByKey.{both-ok}
use Rattle.catalogue_core.proofs.NamedLaws.{named-editions}
use Rattle.catalogue_core.proofs.SameEditions.{same_editions_of}
use Rattle.catalogue_core.proofs.catalogue.Catalogue.editions.Goals as goal

pub returns : goal.returns
returns c =
    let x = c.self.inside in
    let k = c.self.invariant in
    let all = named_in x.blocks.blocks x.homes.entries in
    let are = named-editions x.history.items x.homes.entries x.blocks.blocks (kept_works x.works) k in
    subst (λ (v : CatalogueValue). (all : List Edition) × AreEditionsOf v.history all × IfOk c.in_order.result (λ found. map (λ (e : Bor Edition). e.now) found.items ≡ all)) c.self.view_is (
      all,
      are,
      both-ok c.in_order.result _ _ _
          (λ found same up.
          let order = map (λ (e : Bor Edition). e.now) found.items in
          same_editions_of x.history.items order all (ordered-from_sorted (bases x.history.items) (values_of (blocks_in x.blocks.blocks)) order k.resolved same up) are)
          c.in_order.ensures.same c.in_order.ensures.ascending,
    )
