use Rattle.std.proofs.Common.{◌≡◌, List, sym, ap, subst, ◌∙◌}
use Rattle.std.specs.Prelude.{Option, Some, None, is_none, is_some, not}
use Rattle.std.specs.Option.{option_map, option_copied}
use Rattle.edition_blocks.specs.Grouping.{kept_works}
use Rattle.turn_plans.specs.Histories.{at_id, is_current, current, AreEditionsOf}
use Rattle.turn_plans.specs.Homes.{Block}
use Rattle.catalogue_core.proofs.Naming.{named_in}
use Rattle.catalogue_core.specs.Walks.{holder_of}
use Rattle.catalogue_editions.specs.declared.edition.Edition.{Edition}
use Rattle.catalogue_core.specs.Catalogues.{CatalogueValue}
use Rattle.catalogue_core.proofs.Looking.{none-copied}
use Rattle.catalogue_core.proofs.NamedLaws.{named-editions, holder-is, holder-none, home-current}
use Rattle.catalogue_core.proofs.catalogue.Catalogue.holder.Goals as goal

pub returns-in-Some-clause-holder : goal.returns-in-Some-clause-holder
returns-in-Some-clause-holder c =
    let x = c.self.inside in
    let k = c.self.invariant in
    let id = c.args.id.now in
    let home = c.in-Some.home in
    let at : at_id x.homes.entries id ≡ Some home = sym c.get.ensures ∙ c.in-Some.is in
    let (e, stands, bears) = k.housed.each id home at in
    subst (λ (v : CatalogueValue). (all : List Edition) × AreEditionsOf v.history all × (option_copied c.block.result ≡ holder_of all id)) c.self.view_is (
      named_in x.blocks.blocks x.homes.entries,
      named-editions x.history.items x.homes.entries x.blocks.blocks (kept_works x.works) k,
      c.block.ensures ∙ ap (option_map (λ (b : Block). b.value)) stands ∙ holder-is x.history.items x.homes.entries x.blocks.blocks (kept_works x.works) k id home e at stands,
    )

pub returns-in-Some-clause-none : goal.returns-in-Some-clause-none
returns-in-Some-clause-none c =
    let x = c.self.inside in
    let k = c.self.invariant in
    let id = c.args.id.now in
    let home = c.in-Some.home in
    let at : at_id x.homes.entries id ≡ Some home = sym c.get.ensures ∙ c.in-Some.is in
    let (e, stands, bears) = k.housed.each id home at in
    sym (none-copied c.block.result) ∙ ap is_none (c.block.ensures ∙ ap (option_map (λ (b : Block). b.value)) stands)
    ∙ ap not (ap is_some (sym at) ∙ home-current x.history.items x.homes.entries x.blocks.blocks (kept_works x.works) k id) ∙ ap (λ (v : CatalogueValue). not (is_current (current v.history) id)) c.self.view_is

pub returns-in-None-clause-holder : goal.returns-in-None-clause-holder
returns-in-None-clause-holder c =
    let x = c.self.inside in
    let k = c.self.invariant in
    let id = c.args.id.now in
    let at : at_id x.homes.entries id ≡ None = sym c.get.ensures ∙ c.in-None.is in
    subst (λ (v : CatalogueValue). (all : List Edition) × AreEditionsOf v.history all × (◌≡◌ {A = Option Edition} None (holder_of all id))) c.self.view_is (
      named_in x.blocks.blocks x.homes.entries,
      named-editions x.history.items x.homes.entries x.blocks.blocks (kept_works x.works) k,
      holder-none x.history.items x.homes.entries x.blocks.blocks (kept_works x.works) k id at,
    )

pub returns-in-None-clause-none : goal.returns-in-None-clause-none
returns-in-None-clause-none c =
    let x = c.self.inside in
    let k = c.self.invariant in
    let id = c.args.id.now in
    let at : at_id x.homes.entries id ≡ None = sym c.get.ensures ∙ c.in-None.is in
    ap not (ap is_some (sym at) ∙ home-current x.history.items x.homes.entries x.blocks.blocks (kept_works x.works) k id) ∙ ap (λ (v : CatalogueValue). not (is_current (current v.history) id)) c.self.view_is
