use Rattle.std.proofs.Common.{◌≡◌, ◌++◌, map, take}
use Rattle.match_features.specs.declared.keys.FeatureKey.TheVariants.{TitleOfMany}
use Rattle.match_features.proofs.keys.push_keys_of_many.Given as goal

abbrev pub invariant-loop-title : goal.invariant-loop-title
invariant-loop-title l = l.found.items ≡ l.initial.found.items ++ map TitleOfMany (take l.title-index l.titles)
