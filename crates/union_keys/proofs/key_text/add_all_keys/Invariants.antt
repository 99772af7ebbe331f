use Rattle.std.proofs.Common.{◌≡◌, ◌++◌, take}
use Rattle.std.specs.List.{flat_map}
use Rattle.union_keys.specs.Lines.{key_cells}
use Rattle.union_keys.proofs.key_text.add_all_keys.Given as goal

abbrev pub invariant-loop-edition : goal.invariant-loop-edition
invariant-loop-edition l = l.text.items ≡ l.initial.text.items ++ flat_map key_cells (take l.edition-index l.editions)
