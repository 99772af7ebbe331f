use Rattle.std.proofs.Common.{◌≡◌, ◌+◌, drop}
use Rattle.marc_fields.specs.Rows.{least_where_not}
use Rattle.marc_rules.specs.Contents.{is_utf8_at}
use Rattle.marc_rules.proofs.contents.first_not_utf8.Given as goal

-- the other entries decide
abbrev pub invariant-loop-i : goal.invariant-loop-i
invariant-loop-i l = least_where_not (is_utf8_at l.bytes) 1 l.entries ≡ least_where_not (is_utf8_at l.bytes) (l.i + 1) (drop l.i l.entries)
