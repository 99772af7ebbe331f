use Rattle.std.proofs.Common.{◌≡◌, [], map, take}
use Rattle.std.specs.List.{fold}
use Rattle.workset_keys.specs.Names.{name_of}
use Rattle.workset_keys.specs.WorkKeys.{lesser}
use Rattle.workset_keys.proofs.names.least_name.Given as goal

abbrev pub invariant-loop-field : goal.invariant-loop-field
invariant-loop-field l = l.least ≡ fold lesser [] (map name_of (take l.field-index l.added))
