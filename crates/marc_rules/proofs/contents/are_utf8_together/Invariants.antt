use Rattle.std.proofs.Common.{◌≡◌, ◌+◌, drop}
use Rattle.marc_fields.specs.Rows.{least_where_not}
use Rattle.marc_rules.specs.Contents.{is_utf8_at}
use Rattle.marc_rules.proofs.contents.are_utf8_together.Given as goal

-- the other entries decide
abbrev pub invariant-loop-entry : goal.invariant-loop-entry
invariant-loop-entry l =
    least_where_not (is_utf8_at l.bytes) 1 l.entries ≡ least_where_not (is_utf8_at l.bytes) (l.entry-index + 1) (drop l.entry-index l.entries)
