use Rattle.swoosh_halves.proofs.halves.resolve_share.Goals as goal

pub resolve_each-requires : goal.resolve_each-requires
resolve_each-requires g c = rw c.new-none.ensures.items c.requires

pub returns : goal.returns
returns g c = rw c.new-none.ensures.items at c.resolve_each.ensures
