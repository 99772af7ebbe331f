use Rattle.std.proofs.Common.{rules, ◌≡◌, ◌≢◌, ◌↔◌, List, AllPairs, Contains, subst, sym}
use Rattle.match_features.specs.declared.keys.FeatureKey.{FeatureKey}
use Rattle.match_features.specs.Posted.{IsPosted}
use Rattle.match_features.proofs.BesideLaws.{posted_beside, features_beside, features_beside_once}
use Rattle.match_features.proofs.keys.keys_beside.Goals as goal

-- the list is that of the keys under which the features are posted beside
listed : (c : goal.After-drop-titles-2) → c.push_beside_by_title.new.found.items ≡ posted_beside c.args.features.now c.args.base.now
listed c = search rules

pub returns-clause-had : goal.returns-clause-had
returns-clause-had c =
    let x = c.args.features.now in
    let y = c.args.base.now in
    λ k. subst (λ (found : List FeatureKey). Contains found k ↔ (IsPosted x k × (IsPosted y k → ⊥))) (sym (listed c)) (features_beside x y c.requires k)

pub returns-clause-once : goal.returns-clause-once
returns-clause-once c =
    subst (AllPairs (λ (j k : FeatureKey). j ≢ k)) (sym (listed c)) (features_beside_once c.args.features.now c.args.base.now)
