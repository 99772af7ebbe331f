use Rattle.std.proofs.Common.{◌≡◌, length}
use Rattle.edition_doubts.specs.Pairs.{some_pair}
use Rattle.edition_doubts.specs.OwnNumbers.{match_by_own}
use Rattle.edition_doubts.proofs.own_numbers.are_joined_by_own.Given as goal

-- the records that are left decide
abbrev pub invariant-loop-first : goal.invariant-loop-first
invariant-loop-first l = some_pair match_by_own l.fn.records ≡ some_pair match_by_own l.left

abbrev pub decreases-loop-first : goal.decreases-loop-first
decreases-loop-first l = length l.left
