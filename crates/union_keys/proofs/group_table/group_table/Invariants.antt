use Rattle.std.proofs.Common.{◌+◌, ◌/◌, ◌≤◌, ℕ, List, length}
use Rattle.union_keys.specs.GroupTables.{groups_in, groups_of, AddsGroups}
use Rattle.union_keys.specs.Tables.{record_rows}
use Rattle.union_keys.proofs.group_table.group_table.Given as goal

-- the groups that are left go on with those that were added
abbrev pub invariant-loop-rest : goal.invariant-loop-rest
invariant-loop-rest l = record {
  added : (after : List ℕ)
      → AddsGroups l.rows.number (groups_in l.standings (length l.rest / 8) l.rest l.rows.members.items) l.rows.text.items after
      → AddsGroups 0 (groups_of l.standings l.groups) (record_rows l.standings) after;
  few : l.rows.number + length l.rest ≤ length l.groups;
}

abbrev pub decreases-loop-rest : goal.decreases-loop-rest
decreases-loop-rest l = length l.rest
