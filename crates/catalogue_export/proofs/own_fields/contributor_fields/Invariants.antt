use Rattle.std.proofs.Common.{◌≡◌, take}
use Rattle.std.specs.List.{flat_map}
use Rattle.catalogue_export.specs.Exported.{contributor_field}
use Rattle.catalogue_export.proofs.own_fields.contributor_fields.Given as goal

-- the contributors so far have their fields
abbrev pub invariant-loop-id : goal.invariant-loop-id
invariant-loop-id l = l.fields.items ≡ flat_map contributor_field (take l.id-index l.ids)
