use Rattle.std.proofs.Common.{subst, take_all}
use Rattle.catalogue_editions.specs.Joined.{joined_all}
use Rattle.catalogue_editions.specs.Slots.{AreSlotsOf}
use Rattle.catalogue_editions.proofs.slots.Slots.joined_all.Goals as goal

pub returns : goal.returns
returns c d of =
    subst (λ contents. AreSlotsOf c.loop-shared.slots (joined_all d contents))
    (take_all c.loop-shared.shared-index c.args.contents.now c.loop-shared-test.false) (c.loop-shared.invariant d of)
