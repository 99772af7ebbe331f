use Rattle.std.proofs.Common.{false, ℕ, List, [], length}
use Rattle.union_words.specs.Lines.{lines_of}
use Rattle.union_keys.specs.Groups.{groups_from}
use Rattle.union_keys.specs.Lines.{AddsLines}
use Rattle.union_keys.proofs.groups.group_lines.Given as goal

-- the lines of the groups that are left go on with those that were added
abbrev pub invariant-loop-line : goal.invariant-loop-line
invariant-loop-line l = (after : List ℕ)
    → AddsLines (groups_from l.table.entries l.lines l.written.begun l.written.members.items) l.written.text.items after
    → AddsLines (groups_from l.table.entries (lines_of l.groups) false []) [] after

abbrev pub decreases-loop-line : goal.decreases-loop-line
decreases-loop-line l = length l.lines
