use Rattle.std.proofs.Common.{◌≡◌, ◌++◌}
use Rattle.record_homes.proofs.ascending_ids.AscendingIds.of_tree.Given as goal

-- the ids so far are in the list
abbrev pub invariant-loop-entry : goal.invariant-loop-entry
invariant-loop-entry l = l.entries.items ++ l.entry-iterator ≡ l.fn.tree.entries
