-- the control numbers of the operations so far
use Rattle.std.proofs.Common.{◌≡◌, map, take}
use Rattle.gathered_catalogue.specs.Following.{control_of}
use Rattle.gathered_catalogue.proofs.following.control_numbers.Given as goal

abbrev pub invariant-loop-op : goal.invariant-loop-op
invariant-loop-op l = l.controls.items ≡ map control_of (take l.op-index l.ops)
