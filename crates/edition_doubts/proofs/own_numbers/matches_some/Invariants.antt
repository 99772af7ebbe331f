use Rattle.std.proofs.Common.{◌≡◌, length}
use Rattle.std.specs.List.{list_any}
use Rattle.edition_doubts.specs.OwnNumbers.{match_by_own}
use Rattle.edition_doubts.proofs.own_numbers.matches_some.Given as goal

-- the records that are left decide
abbrev pub invariant-loop-other : goal.invariant-loop-other
invariant-loop-other l = list_any (match_by_own l.one) l.fn.others ≡ list_any (match_by_own l.one) l.left

abbrev pub decreases-loop-other : goal.decreases-loop-other
decreases-loop-other l = length l.left
