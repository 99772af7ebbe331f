use Rattle.std.proofs.Common.{◌≡◌, ◌+◌, drop}
use Rattle.marc_fields.specs.Rows.{least_where_not}
use Rattle.marc_fields.specs.Rules.{is_control_shaped, is_data_shaped}
use Rattle.marc_fields.proofs.fields.are_shaped_together.Given as goal

-- the other entries decide
abbrev pub invariant-loop-entry : goal.invariant-loop-entry
invariant-loop-entry l = record {
  controls : least_where_not (is_control_shaped l.bytes) 1 l.entries ≡ least_where_not (is_control_shaped l.bytes) (l.entry-index + 1) (drop l.entry-index l.entries);
  data_fields : least_where_not (is_data_shaped l.bytes) 1 l.entries ≡ least_where_not (is_data_shaped l.bytes) (l.entry-index + 1) (drop l.entry-index l.entries);
}
