use Rattle.std.proofs.Common.{◌≡◌, ◌++◌, take}
use Rattle.record_editions.specs.EditionKeys.{added_names}
use Rattle.record_editions.proofs.added_entries.push_names.Given as goal

-- the names so far follow what was there
abbrev pub invariant-loop-field : goal.invariant-loop-field
invariant-loop-field l = l.used.items ≡ l.initial.used.items ++ added_names l.names (take l.field-index l.fields)
