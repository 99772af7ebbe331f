use Rattle.std.proofs.Common.{rules, ◌≡◌, ◌≢◌, ◌↔◌, List, AllPairs, Contains, subst, sym}
use Rattle.match_features.specs.declared.keys.FeatureKey.{FeatureKey}
use Rattle.match_features.specs.Posted.{IsPosted}
use Rattle.match_features.specs.KeyLists.{posted}
use Rattle.match_features.proofs.PostedLaws.{features_posted, features_posted_once}
use Rattle.match_features.proofs.keys.posted_keys.Goals as goal

-- the list is that of the keys under which the features are posted
listed : (c : goal.In_ok-push_posted_by_title) → c.push_posted_by_title.new.found.items ≡ posted c.args.features.now
listed c = search rules

pub returns-clause-had : goal.returns-clause-had
returns-clause-had c =
    λ k. subst (λ (found : List FeatureKey). Contains found k ↔ IsPosted c.args.features.now k) (sym (listed c)) (features_posted c.args.features.now k)

pub returns-clause-once : goal.returns-clause-once
returns-clause-once c = subst (AllPairs (λ (j k : FeatureKey). j ≢ k)) (sym (listed c)) (features_posted_once c.args.features.now)
