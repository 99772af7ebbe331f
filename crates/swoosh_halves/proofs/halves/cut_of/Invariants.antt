use Rattle.std.proofs.Common.{◌≤◌, ◌-◌, length}
use Rattle.swoosh_halves.proofs.halves.cut_of.Given as goal

abbrev pub invariant-loop-place : goal.invariant-loop-place
invariant-loop-place g l = l.place ≤ length l.groups

abbrev pub decreases-loop-place : goal.decreases-loop-place
decreases-loop-place g l = length l.groups - l.place
