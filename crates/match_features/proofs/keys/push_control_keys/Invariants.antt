use Rattle.std.proofs.Common.{◌≡◌, ◌++◌, map, take}
use Rattle.match_features.specs.declared.keys.FeatureKey.TheVariants.{Control}
use Rattle.match_features.proofs.keys.push_control_keys.Given as goal

abbrev pub invariant-loop-source : goal.invariant-loop-source
invariant-loop-source l = l.found.items ≡ l.initial.found.items ++ map Control (take l.source-index l.control)
