use Rattle.std.proofs.Common.{◌≡◌, ◌++◌, take}
use Rattle.match_features.specs.KeyLists.{dated_keys}
use Rattle.match_features.proofs.keys.push_dated_keys.Given as goal

abbrev pub invariant-loop-date : goal.invariant-loop-date
invariant-loop-date l = l.found.items ≡ l.initial.found.items ++ dated_keys l.title (take l.date-index l.dates) l.names
