use Rattle.std.proofs.Common.{◌≡◌, take}
use Rattle.std.specs.List.{flat_map}
use Rattle.edition_doubts.specs.Reasons.{first_byte_under}
use Rattle.edition_doubts.proofs.materials.materials_of.Given as goal

abbrev pub invariant-loop-field : goal.invariant-loop-field
invariant-loop-field l = l.bytes.items ≡ flat_map (first_byte_under l.tag) (take l.field-index l.field-items)
