use Rattle.std.proofs.Common.{rules, ◌≡◌, ◌≢◌, ◌↔◌, List, AllPairs, Contains, subst, sym}
use Rattle.match_features.specs.declared.keys.FeatureKey.{FeatureKey}
use Rattle.match_features.specs.Keys.{HasKey}
use Rattle.match_features.proofs.KeyLaws.{keys, features_keys, features_keys_once}
use Rattle.match_features.proofs.keys.feature_keys.Goals as goal

-- the list is that of the keys
listed : (c : goal.In_ok-push_title_keys) → c.push_title_keys.new.found.items ≡ keys c.args.features.now
listed c = search rules

pub returns-clause-had : goal.returns-clause-had
returns-clause-had c =
    λ k. subst (λ (found : List FeatureKey). Contains found k ↔ HasKey c.args.features.now k) (sym (listed c)) (features_keys c.args.features.now k)

pub returns-clause-once : goal.returns-clause-once
returns-clause-once c = subst (AllPairs (λ (j k : FeatureKey). j ≢ k)) (sym (listed c)) (features_keys_once c.args.features.now)
