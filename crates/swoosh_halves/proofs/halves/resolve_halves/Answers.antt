use Rattle.std.proofs.Common.{map}
use Rattle.swoosh_halves.proofs.halves.resolve_halves.Goals as goal

-- the strangers and the values of the groups are those of the list
pub returns : goal.returns
returns g c =
    let cut = c.in_ok-strangers.ensures in
    rw c.in_ok-append.ensures.items
    (c.strangers_stand_beside.ensures.beside c.args.list.items c.in_ok-strangers.strangers.items c.in_ok-resolve_groups.field-0.items
    (map (λ group. group.items) c.in_ok-strangers.groups.items) cut.apart cut.members c.in_ok-resolve_groups.ensures)
