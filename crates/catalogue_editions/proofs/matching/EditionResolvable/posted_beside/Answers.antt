use Rattle.std.proofs.Common.{◌↔◌, IfOk, IfSome, Contains, subst}
use Rattle.match_features.specs.declared.features.Features.{Features}
use Rattle.match_features.specs.declared.keys.FeatureKey.{FeatureKey}
use Rattle.match_features.specs.Posted.{IsPosted}
use Rattle.catalogue_editions.proofs.matching.EditionResolvable.posted_beside.Goals as goal

pub returns-clause-keys : goal.returns-clause-keys
returns-clause-keys c =
    subst (λ (both : Features × Features). IfOk c.posted_beside.result (λ o. IfSome o (λ keys. (k : FeatureKey)
    → Contains keys.items k ↔ (IsPosted both.0 k × (IsPosted both.1 k → ⊥)))))
    (λ i. (c.features.ensures i, c.features-2.ensures i)) c.posted_beside.ensures.had
