use Rattle.std.proofs.Common.{◌↔◌, IfOk, Contains, subst}
use Rattle.match_features.specs.declared.features.Features.{Features}
use Rattle.match_features.specs.declared.keys.FeatureKey.{FeatureKey}
use Rattle.match_features.specs.Posted.{SeeksBeside}
use Rattle.catalogue_editions.proofs.matching.EditionResolvable.sought_beside.Goals as goal

pub returns-clause-exact : goal.returns-clause-exact
returns-clause-exact c =
    subst (λ (both : Features × Features). IfOk c.sought_beside.result (λ keys. (k : FeatureKey) → Contains keys.items k ↔ SeeksBeside both.0 both.1 k))
    (λ i. (c.features.ensures i, c.features-2.ensures i)) c.sought_beside.ensures.sought
