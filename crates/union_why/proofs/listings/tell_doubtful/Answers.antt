use Rattle.std.proofs.Common.{subst, sym}
use Rattle.catalogue_editions.specs.Resolutions.{IsOrderedResolution}
use Rattle.edition_doubts.specs.Groups.{gathered}
use Rattle.doubt_texts.specs.Editions.{IsListing}
use Rattle.union_why.proofs.listings.tell_doubtful.Goals as goal

pub listed-requires : goal.listed-requires
listed-requires g c = subst (IsOrderedResolution c.args.records.now) (sym c.as_slice.ensures.value) c.in_ok-editions.ensures

pub returns : goal.returns
returns g c = record {
  editions = c.in_ok-editions.editions.items;
  resolved = c.in_ok-editions.ensures;
  told = subst (λ editions. IsListing c.args.form (gathered c.args.records.now editions) c.in_ok-text.text.items) c.as_slice.ensures.value c.in_ok-text.ensures;
}
