use Rattle.std.proofs.Common.{◌≡◌, ◌++◌, map, take}
use Rattle.match_features.specs.declared.keys.FeatureKey.TheVariants.{Issn}
use Rattle.match_features.proofs.keys.push_issn_keys.Given as goal

abbrev pub invariant-loop-issn : goal.invariant-loop-issn
invariant-loop-issn l = l.found.items ≡ l.initial.found.items ++ map Issn (take l.issn-index l.issns)
