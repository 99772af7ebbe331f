use Rattle.std.proofs.Common.{◌≡◌, Bor, List, map, filter, subst}
use Rattle.std.proofs.lemmas.Result.{IfOk-weaker}
use Rattle.edition_blocks.specs.Grouping.{kept_works}
use Rattle.turn_plans.specs.Histories.{bases, AreEditionsOf}
use Rattle.catalogue_core.proofs.Naming.{named_in}
use Rattle.catalogue_editions.specs.IndexKeys.{has_key}
use Rattle.catalogue_editions.specs.declared.edition.Edition.{Edition}
use Rattle.catalogue_core.specs.Catalogues.{CatalogueValue}
use Rattle.catalogue_core.proofs.NamedLaws.{named-editions, walk-order}
use Rattle.catalogue_core.proofs.catalogue.Catalogue.with_key.Goals as goal

pub returns : goal.returns
returns c =
    let x = c.self.inside in
    let k = c.self.invariant in
    let all = named_in x.blocks.blocks x.homes.entries in
    let are = named-editions x.history.items x.homes.entries x.blocks.blocks (kept_works x.works) k in
    let order = walk-order x.history.items x.homes.entries x.blocks.blocks (kept_works x.works) k in
    IfOk-weaker c.with_key.result _ _
    (λ found kept. subst (λ (v : CatalogueValue). (all : List Edition) × AreEditionsOf v.history all × (map (λ (e : Bor Edition). e.now) found.items ≡ filter (has_key c.args.key.now) all)) c.self.view_is
    (all, are, kept (bases x.history.items) all are order))
    c.with_key.ensures
