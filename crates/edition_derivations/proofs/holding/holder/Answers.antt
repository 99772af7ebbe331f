use Rattle.std.proofs.Common.{◌≡◌, false, sym, ap, ◌∙◌}
use Rattle.std.proofs.lemmas.List.{get_or_default}
use Rattle.std.proofs.lemmas.List.Elements.{AllWithin-more}
use Rattle.edition_derivations.specs.Steps.{holds}
use Rattle.edition_derivations.proofs.holding.holder.Goals as goal

pub loop-edition-preserved : goal.loop-edition-preserved
loop-edition-preserved c =
    let editions = c.args.editions.now in
    let id = c.args.id.now in
    let at = c.loop-edition.edition-index in
    let item = c.edition-item.result in
    AllWithin-more (λ e. holds e id ≡ false) editions 0 at c.loop-edition.invariant
    (λ d. ap (λ e. holds e id) (get_or_default editions at d item c.loop-edition-test.true ∙ sym c.edition-item.is) ∙ sym c.holds.ensures ∙ c.if-holds.false)
