use Rattle.std.proofs.Common.{◌≡◌, ◌++◌, take}
use Rattle.std.specs.List.{flat_map}
use Rattle.doubt_texts.specs.Counts.{count_line}
use Rattle.doubt_texts.proofs.counts.add_count_lines.Given as goal

abbrev pub invariant-loop-doubt : goal.invariant-loop-doubt
invariant-loop-doubt l = l.text.items ≡ l.initial.text.items ++ flat_map (count_line l.doubts) (take l.doubt-index l.wanted)
