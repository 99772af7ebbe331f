use Rattle.std.proofs.Common.{◌≡◌, ◌≢◌, ◌↔◌, List, AllPairs, Contains, subst, sym, ◌∙◌, ap, map, ◌++◌}
use Rattle.match_features.specs.declared.keys.FeatureKey.{FeatureKey}
use Rattle.match_features.specs.declared.keys.FeatureKey.TheVariants.{TitleOfMany}
use Rattle.match_features.specs.Posted.{IsPosted}
use Rattle.match_features.specs.KeyLists.{posted, title_alone}
use Rattle.match_features.proofs.PostedLaws.{features_posted, features_posted_once}
use Rattle.match_features.proofs.TitledLaws.{posted-from_few, posted-from_many}
use Rattle.match_features.proofs.keys.posted_of_sought.Goals as goal
use Rattle.match_features.proofs.keys.posted_of_sought.Goals.{then-has_few, else-has_few+in_ok-push_keys_of_many}

-- the list is that of the keys under which the features are posted
listed : (c : goal.Joined-has_few) → c.if-has_few.keys.items ≡ posted c.args.features.now
listed c =
    let x = c.args.features.now in
    elim c.if-has_few.branch [
      | then-has_few w ↦
          ap (λ v. v.items) w.keys-is ∙ w.make_titles_alone.ensures ∙ ap (map title_alone) c.requires ∙
          posted-from_few x (sym c.has_few.ensures ∙ w.if-has_few.true)
      | else-has_few+in_ok-push_keys_of_many w ↦
          ap (λ v. v.items) w.keys-is ∙ w.in_ok-push_keys_of_many.ensures ∙
          (λ i. c.requires i ++ map TitleOfMany (w.as_slice.ensures.value i)) ∙
          posted-from_many x (sym c.has_few.ensures ∙ w.if-has_few.false)
    ]

pub returns-clause-had : goal.returns-clause-had
returns-clause-had c =
    λ k. subst (λ (found : List FeatureKey). Contains found k ↔ IsPosted c.args.features.now k) (sym (listed c)) (features_posted c.args.features.now k)

pub returns-clause-once : goal.returns-clause-once
returns-clause-once c = subst (AllPairs (λ (j k : FeatureKey). j ≢ k)) (sym (listed c)) (features_posted_once c.args.features.now)
