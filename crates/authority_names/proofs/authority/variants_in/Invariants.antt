use Rattle.std.proofs.Common.{◌≡◌, take}
use Rattle.std.specs.List.{flat_map}
use Rattle.authority_names.specs.Records.{variant_in}
use Rattle.authority_names.proofs.authority.variants_in.Given as goal

abbrev pub invariant-loop-field : goal.invariant-loop-field
invariant-loop-field l = l.names.items ≡ flat_map variant_in (take l.field-index l.fields)
