use Rattle.std.proofs.Common.{◌≡◌, ◌++◌, take}
use Rattle.std.specs.List.{flat_map}
use Rattle.union_keys.specs.Tables.{key_rows}
use Rattle.union_keys.proofs.table.add_editions.Given as goal

abbrev pub invariant-loop-edition : goal.invariant-loop-edition
invariant-loop-edition l = l.text.items ≡ l.initial.text.items ++ flat_map (key_rows l.number) (take l.edition-index l.editions)
