use Rattle.std.proofs.Common.{◌≡◌, take}
use Rattle.catalogue_editions.specs.Borrowed.{fields_of}
use Rattle.catalogue_export.proofs.holdings.borrowed.Given as goal

-- the fields so far are listed
abbrev pub invariant-loop-field : goal.invariant-loop-field
invariant-loop-field l = fields_of l.list.items ≡ take l.field-index l.fields
