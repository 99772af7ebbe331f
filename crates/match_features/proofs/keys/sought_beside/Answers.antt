use Rattle.std.proofs.Common.{rules, ◌≡◌, ◌↔◌, List, Contains, subst, sym}
use Rattle.match_features.specs.declared.keys.FeatureKey.{FeatureKey}
use Rattle.match_features.specs.Posted.{IsPosted, SeeksBeside}
use Rattle.match_features.proofs.BesideLaws.{sought_beside, features_sought_beside, features_found_beside}
use Rattle.match_features.proofs.keys.sought_beside.Goals as goal

-- the list is that of the keys that are sought beside
listed : (c : goal.After-drop-control-2) → c.push_sought_by_title.new.found.items ≡ sought_beside c.args.features.now c.args.base.now
listed c = search rules

pub returns-clause-sought : goal.returns-clause-sought
returns-clause-sought c =
    let x = c.args.features.now in
    let y = c.args.base.now in
    λ k. subst (λ (found : List FeatureKey). Contains found k ↔ SeeksBeside x y k) (sym (listed c)) (features_sought_beside x y k)

pub returns-clause-whole : goal.returns-clause-whole
returns-clause-whole c =
    λ z met apart. subst (λ (found : List FeatureKey). (k : FeatureKey) × Contains found k × IsPosted z k) (sym (listed c))
    (features_found_beside c.args.features.now c.args.base.now z met apart)
