use Rattle.std.proofs.Common.{subst}
use Rattle.catalogue_editions.specs.Resolutions.{IsOrderedResolution}
use Rattle.union_why.proofs.listings.resolved.Goals as goal

pub returns : goal.returns
returns g c =
    let editions = c.in_ok-editions.editions.items in
    subst (λ list. IsOrderedResolution list editions) c.in_ok-shared.ensures
    (c.sorted_resolution_is_ordered.ensures c.in_ok-shared.shared.items c.in_ok-found.found.items editions c.in_ok-found.ensures
    c.in_ok-editions.ensures.same c.in_ok-editions.ensures.ascending)
