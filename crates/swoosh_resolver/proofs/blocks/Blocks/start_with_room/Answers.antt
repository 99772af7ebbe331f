use Rattle.swoosh_resolver.proofs.Views.{fits-none}
use Rattle.swoosh_resolver.proofs.blocks.Blocks.start_with_room.Goals as goal

pub returns-clause-fits : goal.returns-clause-fits
returns-clause-fits g c =
    rw (c.new.ensures.items, c.in_ok-with_room.ensures) (fits-none c.args.self.now.blocks (rw (← c.self.view_is) c.self.invariant.apart))
