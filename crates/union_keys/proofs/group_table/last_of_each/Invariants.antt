use Rattle.std.proofs.Common.{◌≡◌, ◌++◌}
use Rattle.union_keys.specs.GroupTables.{last_of_each}
use Rattle.union_keys.proofs.group_table.last_of_each.Given as goal

-- the records that are left go on with those that were taken
abbrev pub invariant-loop-standing : goal.invariant-loop-standing
invariant-loop-standing l = l.last.items ++ l.standing-iterator ≡ last_of_each l.fn.members.items
