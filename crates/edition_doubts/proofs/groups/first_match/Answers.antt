use Rattle.std.proofs.Common.{◌≡◌, false, sym, ap, ◌∙◌}
use Rattle.std.proofs.lemmas.List.{get_or_default}
use Rattle.std.proofs.lemmas.List.Elements.{AllWithin-more}
use Rattle.catalogue_editions.specs.Matching.{match}
use Rattle.edition_doubts.proofs.groups.first_match.Goals as goal

pub loop-i-preserved : goal.loop-i-preserved
loop-i-preserved c =
    let editions = c.args.editions.now in
    let value = c.args.rec.now in
    let item = c.index-editions-i.result in
    AllWithin-more (λ x. match value x ≡ false) editions 0 c.loop-i.i c.loop-i.invariant
    (λ d.
    ap (match value) (get_or_default editions c.loop-i.i d item c.loop-i-test.true ∙ sym c.index-editions-i.is)
    ∙ sym c.matches.ensures
    ∙ c.if-matches.false)
