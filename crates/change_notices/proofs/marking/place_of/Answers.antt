use Rattle.std.proofs.Common.{◌≡◌, false, true, sym, ◌∙◌, rules}
use Rattle.std.proofs.lemmas.Fn.{always_returns_same}
use Rattle.catalogue_editions.specs.Ids.{edition_cmp}
use Rattle.catalogue_editions.specs.declared.edition.Edition.{Edition}
use Rattle.change_notices.proofs.MarkLaws.{tied, untied}
use Rattle.change_notices.proofs.marking.place_of.Goals as goal

pub returns-else-same-clause-none : goal.returns-else-same-clause-none
returns-else-same-clause-none c =
    λ h.
    let e = c.args.edition.now in
    let d = c.index-held-place.result in
    let tie = c.in-Ok.ensures.position (λ (y : Edition). edition_cmp y e) (always_returns_same _ _ _ (λ a r f k. (search rules, search rules))) d in
    let clash : false ≡ true = sym c.if-same.false ∙ c.in_ok-same-in-Ok.ensures.1 (c.index-held-place.is ∙ tied c.args.held.now c.requires e c.in-Ok.place d c.in-Ok.ensures.bound tie h) in cc

pub returns-in-Err-clause-none : goal.returns-in-Err-clause-none
returns-in-Err-clause-none c =
    untied c.args.held.now c.requires c.args.edition.now c.in-Err.field-0
    (c.in-Err.ensures.position (λ (y : Edition). edition_cmp y c.args.edition.now) (always_returns_same _ _ _ (λ a r f k. (search rules, search rules))))
