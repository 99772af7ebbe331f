use Rattle.std.proofs.Common.{take}
use Rattle.catalogue_editions.specs.Joined.{joined_all, all_in}
use Rattle.catalogue_editions.specs.Slots.{AreSlotsOf}
use Rattle.catalogue_editions.proofs.slots.Slots.of_all.Given as goal

-- the slots so far are those of the contents of the parts so far
abbrev pub invariant-loop-part : goal.invariant-loop-part
invariant-loop-part l = AreSlotsOf l.slots (joined_all l.first (all_in (take l.part-index l.parts)))
