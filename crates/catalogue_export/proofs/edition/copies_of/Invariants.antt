use Rattle.std.proofs.Common.{◌≡◌, map, take}
use Rattle.catalogue_export.proofs.edition.copies_of.Given as goal

-- the fields so far are copied
abbrev pub invariant-loop-field : goal.invariant-loop-field
invariant-loop-field l = l.copies.items ≡ map (λ f. f.now) (take l.field-index l.fields)
