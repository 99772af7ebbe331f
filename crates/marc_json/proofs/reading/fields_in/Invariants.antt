use Rattle.std.proofs.Common.{◌≡◌, map, take}
use Rattle.serde_json.specs.View.{view}
use Rattle.marc_json.specs.Values.{field_value}
use Rattle.marc_json.proofs.reading.fields_in.Given as goal

-- the items so far are the values of the fields
abbrev pub invariant-loop-at : goal.invariant-loop-at
invariant-loop-at l = map field_value l.fields.items ≡ map view (take l.at l.items)
