use Rattle.std.proofs.Common.{◌≡◌, ◌++◌, take}
use Rattle.std.specs.List.{flat_map}
use Rattle.union_keys.specs.Tables.{record_row}
use Rattle.union_keys.proofs.table.add_records.Given as goal

abbrev pub invariant-loop-standing : goal.invariant-loop-standing
invariant-loop-standing l = l.text.items ≡ l.initial.text.items ++ flat_map record_row (take l.standing-index l.standings)
