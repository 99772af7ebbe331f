use Rattle.std.proofs.Common.{◌≡◌, length, map}
use Rattle.record_homes.specs.Moves.{taken_back}
use Rattle.record_homes.proofs.moves.take_back.Given as goal

abbrev pub invariant-loop-id : goal.invariant-loop-id
invariant-loop-id l = taken_back l.homes.entries (map (λ id. id.now) l.came.items) ≡ taken_back l.initial.homes.entries (map (λ id. id.now) l.initial.came.items)

abbrev pub decreases-loop-id : goal.decreases-loop-id
decreases-loop-id l = length l.came.items
