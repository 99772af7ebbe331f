use Rattle.std.proofs.Common.{◌≡◌, ◌++◌, map, take, drop}
use Rattle.match_features.specs.KeyLists.{title_alone}
use Rattle.match_features.proofs.keys.make_titles_alone.Given as goal

abbrev pub invariant-loop-key : goal.invariant-loop-key
invariant-loop-key l = l.key-items ≡ map title_alone (take l.key-index l.initial.key-items) ++ drop l.key-index l.initial.key-items
