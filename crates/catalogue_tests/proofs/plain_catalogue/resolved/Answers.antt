use Rattle.std.proofs.Common.{subst}
use Rattle.catalogue_core.specs.Resolutions.{IsOrderedResolution}
use Rattle.catalogue_tests.proofs.plain_catalogue.resolved.Goals as goal

pub returns : goal.returns
returns g c =
    let editions = c.in_ok-editions.editions.items in
    subst (λ list. IsOrderedResolution list editions) c.in_ok-copies.ensures
    (c.sorted_resolution_is_ordered.ensures c.in_ok-copies.copies.items c.in_ok-found.found.items editions c.in_ok-found.ensures.resolved
    c.in_ok-editions.ensures.same c.in_ok-editions.ensures.ascending)
