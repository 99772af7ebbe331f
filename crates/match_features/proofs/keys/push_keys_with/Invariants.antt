use Rattle.std.proofs.Common.{◌≡◌, ◌++◌, map, take}
use Rattle.match_features.specs.declared.keys.FeatureKey.TheVariants.{Description}
use Rattle.match_features.proofs.keys.push_keys_with.Given as goal

abbrev pub invariant-loop-name : goal.invariant-loop-name
invariant-loop-name l = l.found.items ≡ l.initial.found.items ++ map (λ name. Description (l.title, l.date, name)) (take l.name-index l.names)
