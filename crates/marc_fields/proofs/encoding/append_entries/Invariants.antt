use Rattle.std.proofs.Common.{◌≡◌, ◌++◌, take, map, length}
use Rattle.std.specs.List.{flat_map}
use Rattle.marc_fields.specs.Spelling.{stored, entry_bytes, entries_from}
use Rattle.marc_fields.proofs.encoding.append_entries.Given as goal

-- the entries of the fields so far are appended
abbrev pub invariant-loop-each : goal.invariant-loop-each
invariant-loop-each g l = record {
  start : l.start ≡ length (flat_map stored (take l.each-index (map g.F.HasField.field l.fields)));
  appended : l.into.items ≡ l.initial.into.items ++ flat_map entry_bytes (entries_from 0 (take l.each-index (map g.F.HasField.field l.fields)));
}
