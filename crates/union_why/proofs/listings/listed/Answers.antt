use Rattle.std.proofs.Common.{subst, sym}
use Rattle.edition_doubts.specs.Groups.{pairs_of, AreEditions}
use Rattle.doubt_texts.specs.Editions.{IsListing}
use Rattle.union_why.proofs.listings.listed.Goals as goal

pub groups_of-requires : goal.groups_of-requires
groups_of-requires c = c.requires.resolved

pub listing-requires : goal.listing-requires
listing-requires c = subst (λ groups. AreEditions (pairs_of groups)) (sym c.as_slice.ensures.value) c.in_ok-groups.ensures.editions

pub returns : goal.returns
returns c =
    let text = c.in_ok-text.text.items in
    subst (λ pairs. IsListing c.args.form pairs text) c.in_ok-groups.ensures.pairs
    (subst (λ groups. IsListing c.args.form (pairs_of groups) text) c.as_slice.ensures.value c.in_ok-text.ensures)
