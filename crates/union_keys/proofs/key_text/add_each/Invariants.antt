use Rattle.std.proofs.Common.{◌≡◌, ◌++◌, take}
use Rattle.std.specs.List.{flat_map}
use Rattle.union_keys.specs.Lines.{key_cell}
use Rattle.union_keys.proofs.key_text.add_each.Given as goal

abbrev pub invariant-loop-key : goal.invariant-loop-key
invariant-loop-key l = l.text.items ≡ l.initial.text.items ++ flat_map (key_cell l.mark) (take l.key-index l.keys)
