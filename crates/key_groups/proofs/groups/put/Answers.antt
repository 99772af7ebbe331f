use Rattle.std.proofs.Common.{◌∷◌, []}
use Rattle.key_groups.proofs.Grouping.{put_last}
use Rattle.key_groups.proofs.groups.put.Goals as goal

pub returns : goal.returns
returns g c =
    put_last c.args.groups.now c.args.place c.index-groups-place.result c.push.new.self (c.args.value ∷ []) (λ group. group.items)
    c.requires c.in_ok-push.ensures.items
