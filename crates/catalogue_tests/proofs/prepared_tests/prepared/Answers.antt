use Rattle.std.proofs.Common.{subst}
use Rattle.catalogue_core.specs.Resolutions.{IsOrderedResolution}
use Rattle.catalogue_tests.proofs.prepared_tests.prepared.Goals as goal

pub of-requires : goal.of-requires
of-requires g c =
    let parts = c.in_ok-parts.parts.items in
    subst (λ list. IsOrderedResolution list parts) c.in_ok-left.ensures
    (c.sorted_resolution_is_ordered.ensures c.in_ok-left.left.items c.in_ok-resolved.resolved.items parts c.in_ok-resolved.ensures.resolved
    c.in_ok-parts.ensures.same c.in_ok-parts.ensures.ascending)
