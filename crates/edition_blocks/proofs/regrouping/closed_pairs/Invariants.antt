use Rattle.std.proofs.Common.{◌≡◌, take}
use Rattle.edition_blocks.specs.ClosedKeys.{closed_pairs}
use Rattle.edition_blocks.proofs.regrouping.closed_pairs.Given as goal

abbrev pub invariant-loop-number : goal.invariant-loop-number
invariant-loop-number l = l.pairs.items ≡ closed_pairs l.names l.blocks.blocks (take l.number-index l.closed)
