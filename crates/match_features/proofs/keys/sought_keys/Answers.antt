use Rattle.std.proofs.Common.{rules, ◌≡◌, ◌↔◌, List, Contains, subst, sym}
use Rattle.match_features.specs.declared.keys.FeatureKey.{FeatureKey}
use Rattle.match_features.specs.Posted.{Seeks}
use Rattle.match_features.specs.KeyLists.{sought}
use Rattle.match_features.proofs.PostedLaws.{features_sought}
use Rattle.match_features.proofs.keys.sought_keys.Goals as goal

-- the list is that of the keys that the features seek
listed : (c : goal.In_ok-push_sought_by_title) → c.push_sought_by_title.new.found.items ≡ sought c.args.features.now
listed c = search rules

pub returns-clause-sought : goal.returns-clause-sought
returns-clause-sought c =
    λ k. subst (λ (found : List FeatureKey). Contains found k ↔ Seeks c.args.features.now k) (sym (listed c)) (features_sought c.args.features.now k)
