use Rattle.std.proofs.Common.{◌≡◌, ◌++◌, take}
use Rattle.std.specs.List.{flat_map}
use Rattle.doubt_texts.specs.Names.{next_name}
use Rattle.doubt_texts.proofs.names.add_later.Given as goal

abbrev pub invariant-loop-doubt : goal.invariant-loop-doubt
invariant-loop-doubt l = l.text.items ≡ l.initial.text.items ++ flat_map next_name (take l.doubt-index l.doubts)
