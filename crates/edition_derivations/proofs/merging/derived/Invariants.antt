-- What is left, what is done and the steps so far. Each round takes a value from those left, or two from which one is left.
use Rattle.std.proofs.Common.{◌+◌, ◌*◌, length}
use Rattle.edition_derivations.proofs.DerivingLaws.{IsDeriving}
use Rattle.edition_derivations.proofs.merging.derived.Given as goal

abbrev pub invariant-loop-value : goal.invariant-loop-value
invariant-loop-value l = IsDeriving l.fn.records.items l.left.items l.steps.items l.done.items

abbrev pub decreases-loop-value : goal.decreases-loop-value
decreases-loop-value l = 2 * length l.left.items + length l.done.items
