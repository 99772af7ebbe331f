use Rattle.std.proofs.Common.{◌≡◌, length}
use Rattle.edition_doubts.specs.Pairs.{some_pair}
use Rattle.edition_doubts.specs.Sets.{match_by_sets}
use Rattle.edition_doubts.proofs.sets.some_match.Given as goal

-- the records that are left decide
abbrev pub invariant-loop-first : goal.invariant-loop-first
invariant-loop-first l = some_pair (match_by_sets l.sets) l.fn.records ≡ some_pair (match_by_sets l.sets) l.left

abbrev pub decreases-loop-first : goal.decreases-loop-first
decreases-loop-first l = length l.left
