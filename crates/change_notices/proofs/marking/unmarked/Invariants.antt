use Rattle.std.proofs.Common.{List, take}
use Rattle.catalogue_editions.specs.declared.edition.Edition.{Edition}
use Rattle.edition_blocks.specs.Deltas.{AreOnlyIn}
use Rattle.change_notices.specs.Marks.{AreMarked}
use Rattle.change_notices.proofs.marking.unmarked.Given as goal

-- of the held editions so far those are left that are not marked
abbrev pub invariant-loop-place : goal.invariant-loop-place
invariant-loop-place l = (closed : List Edition) → AreMarked l.held closed l.marks → AreOnlyIn (take l.place l.held) closed l.left.items
