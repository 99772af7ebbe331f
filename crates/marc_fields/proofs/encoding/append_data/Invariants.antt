use Rattle.std.proofs.Common.{◌≡◌, ◌++◌, take, map}
use Rattle.std.specs.List.{flat_map}
use Rattle.marc_fields.specs.Spelling.{stored}
use Rattle.marc_fields.proofs.encoding.append_data.Given as goal

-- the fields so far are appended
abbrev pub invariant-loop-each : goal.invariant-loop-each
invariant-loop-each g l = l.into.items ≡ l.initial.into.items ++ flat_map stored (map g.F.HasField.field (take l.each-index l.fields))
