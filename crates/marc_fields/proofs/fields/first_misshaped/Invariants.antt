use Rattle.std.proofs.Common.{◌≡◌, ◌+◌, drop}
use Rattle.marc_fields.specs.Rows.{least_where_not}
use Rattle.marc_fields.specs.Rules.{is_data_shaped}
use Rattle.marc_fields.proofs.fields.first_misshaped.Given as goal

-- the other entries decide
abbrev pub invariant-loop-i : goal.invariant-loop-i
invariant-loop-i l = least_where_not (is_data_shaped l.bytes) 1 l.entries ≡ least_where_not (is_data_shaped l.bytes) (l.i + 1) (drop l.i l.entries)
