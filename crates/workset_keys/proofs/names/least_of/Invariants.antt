use Rattle.std.proofs.Common.{◌≡◌, [], take}
use Rattle.std.specs.List.{fold}
use Rattle.workset_keys.specs.WorkKeys.{lesser}
use Rattle.workset_keys.proofs.names.least_of.Given as goal

abbrev pub invariant-loop-name : goal.invariant-loop-name
invariant-loop-name l = l.least ≡ fold lesser [] (take l.name-index l.names)
