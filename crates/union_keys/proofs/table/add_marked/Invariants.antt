use Rattle.std.proofs.Common.{◌≡◌, ◌++◌, take}
use Rattle.std.specs.List.{flat_map}
use Rattle.union_keys.specs.Tables.{key_row}
use Rattle.union_keys.proofs.table.add_marked.Given as goal

abbrev pub invariant-loop-key : goal.invariant-loop-key
invariant-loop-key l = l.text.items ≡ l.initial.text.items ++ flat_map (key_row l.number l.mark) (take l.key-index l.keys)
