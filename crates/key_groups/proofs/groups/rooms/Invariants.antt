-- the groups so far are empty
use Rattle.std.proofs.Common.{◌≡◌, [], map, replicate}
use Rattle.key_groups.proofs.groups.rooms.Given as goal

abbrev pub invariant-loop-size : goal.invariant-loop-size
invariant-loop-size g l = map (λ group. group.items) l.groups.items ≡ replicate l.size-index []
