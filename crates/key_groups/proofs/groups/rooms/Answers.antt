use Rattle.key_groups.proofs.Grouping.{empty_more}
use Rattle.key_groups.proofs.groups.rooms.Goals as goal

pub loop-size-preserved : goal.loop-size-preserved
loop-size-preserved g c =
    rw c.in_ok-push.ensures.items
    (empty_more c.loop-size.groups.items c.loop-size.size-index _ (λ group. group.items) c.loop-size.invariant c.in_ok-with_capacity.ensures.items)
