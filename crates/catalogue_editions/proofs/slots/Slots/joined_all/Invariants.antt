use Rattle.std.proofs.Common.{take}
use Rattle.field_merge.specs.declared.content.Content.{Content}
use Rattle.catalogue_editions.specs.Joined.{joined_all}
use Rattle.catalogue_editions.specs.Slots.{AreSlotsOf}
use Rattle.catalogue_editions.proofs.slots.Slots.joined_all.Given as goal

-- the slots so far are those of the content and the contents so far
abbrev pub invariant-loop-shared : goal.invariant-loop-shared
invariant-loop-shared l = (c : Content) → AreSlotsOf l.initial.self c → AreSlotsOf l.slots (joined_all c (take l.shared-index l.contents))
