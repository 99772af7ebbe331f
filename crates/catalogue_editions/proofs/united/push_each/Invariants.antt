use Rattle.std.proofs.Common.{◌≡◌, ◌++◌, take}
use Rattle.catalogue_editions.specs.Borrowed.{fields_of}
use Rattle.catalogue_editions.proofs.united.push_each.Given as goal

-- the fields so far are pushed
abbrev pub invariant-loop-field : goal.invariant-loop-field
invariant-loop-field l = fields_of l.into.items ≡ fields_of l.initial.into.items ++ take l.field-index l.fields
