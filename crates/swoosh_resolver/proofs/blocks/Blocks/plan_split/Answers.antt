use Rattle.swoosh_resolver.specs.Splits.{Splits}
use Rattle.swoosh_resolver.proofs.Splitting.{split-view, split-fits}
use Rattle.swoosh_resolver.proofs.blocks.Blocks.plan_split.Goals as goal

pub returns-clause-fits : goal.returns-clause-fits
returns-clause-fits g c =
    let splits : Splits c.args.change.closed.items c.args.change.opened.items c.args.at c.args.parts.items c.in_ok-closed.field-0.closed.items c.in_ok-opened.opened.items =
    record { left = c.in_ok-closed.field-0.opened.items; closes = c.in_ok-closed.ensures.closed; stay = c.in_ok-closed.ensures.opened; opens = c.in_ok-opened.ensures } in
    split-fits c.args.self.now.blocks c.args.change.closed.items c.args.change.opened.items splits c.requires.fits c.requires.stands c.requires.apart

pub returns-clause-view : goal.returns-clause-view
returns-clause-view g c =
    let splits : Splits c.args.change.closed.items c.args.change.opened.items c.args.at c.args.parts.items c.in_ok-closed.field-0.closed.items c.in_ok-opened.opened.items =
    record { left = c.in_ok-closed.field-0.opened.items; closes = c.in_ok-closed.ensures.closed; stay = c.in_ok-closed.ensures.opened; opens = c.in_ok-opened.ensures } in
    split-view c.args.self.now.blocks c.args.change.closed.items c.args.change.opened.items splits
