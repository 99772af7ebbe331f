use Rattle.std.proofs.Common.{◌+◌, length}
use Rattle.record_homes.proofs.StayLaws.{Houses}
use Rattle.record_homes.proofs.moves.house_newcomers.Given as goal

abbrev pub invariant-loop-id : goal.invariant-loop-id
invariant-loop-id l = Houses l.number l.initial.homes.entries l.fn.ids l.homes.entries l.left l.right

abbrev pub decreases-loop-id : goal.decreases-loop-id
decreases-loop-id l = length l.left + length l.right
