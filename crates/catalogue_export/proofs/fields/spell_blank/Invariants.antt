use Rattle.std.proofs.Common.{◌≡◌, ◌∷◌, take}
use Rattle.std.specs.List.{flat_map}
use Rattle.union_base.specs.Fields.{spelled_subfield}
use Rattle.catalogue_export.proofs.fields.spell_blank.Given as goal

-- the indicators and the subfields so far are spelled
abbrev pub invariant-loop-subfield : goal.invariant-loop-subfield
invariant-loop-subfield l = l.buffer.items ≡ 0x20 ∷ 0x20 ∷ flat_map spelled_subfield (take l.subfield-index l.subfields)
