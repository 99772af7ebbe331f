use Rattle.std.proofs.Common.{◌≡◌, filter, take}
use Rattle.edition_doubts.specs.DoubtfulSteps.{is_brought}
use Rattle.edition_doubts.proofs.steps.brought.Given as goal

abbrev pub invariant-loop-rec : goal.invariant-loop-rec
invariant-loop-rec l = l.part.items ≡ filter (is_brought l.step) (take l.rec-index l.records)
