use Rattle.std.proofs.Common.{◌≡◌, ◌++◌, take}
use Rattle.std.specs.List.{flat_map}
use Rattle.catalogue_editions.specs.Borrowed.{fields_of}
use Rattle.catalogue_export.specs.Holdings.{kept_field, marked_field}
use Rattle.catalogue_export.proofs.owners.deal_fields.Given as goal

-- the fields so far are dealt
abbrev pub invariant-loop-field : goal.invariant-loop-field
invariant-loop-field l = record {
  kept : fields_of l.kept.items ≡ fields_of l.initial.kept.items ++ flat_map (kept_field l.library) (take l.field-index l.united);
  marked : l.marked.items ≡ l.initial.marked.items ++ flat_map (marked_field l.library) (take l.field-index l.united);
}
