use Rattle.std.proofs.Common.{◌≡◌, false, length}
use Rattle.edition_doubts.specs.Sets.{tells_from}
use Rattle.edition_doubts.proofs.sets.tells.Given as goal

-- what is left decides
abbrev pub invariant-loop-first : goal.invariant-loop-first
invariant-loop-first l = tells_from false l.fn.text ≡ tells_from l.is_behind l.left

abbrev pub decreases-loop-first : goal.decreases-loop-first
decreases-loop-first l = length l.left
