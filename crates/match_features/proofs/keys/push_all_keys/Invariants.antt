use Rattle.std.proofs.Common.{◌≡◌, ◌++◌, take}
use Rattle.match_features.specs.KeyLists.{description_keys}
use Rattle.match_features.proofs.keys.push_all_keys.Given as goal

abbrev pub invariant-loop-title : goal.invariant-loop-title
invariant-loop-title l = l.found.items ≡ l.initial.found.items ++ description_keys (take l.title-index l.titles) l.dates l.names
