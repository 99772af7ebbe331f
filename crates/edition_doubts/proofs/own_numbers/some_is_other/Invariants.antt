use Rattle.std.proofs.Common.{◌≡◌, length}
use Rattle.std.specs.List.{list_any}
use Rattle.edition_doubts.specs.OwnNumbers.{is_other_number}
use Rattle.edition_doubts.proofs.own_numbers.some_is_other.Given as goal

-- the numbers that are left decide
abbrev pub invariant-loop-number : goal.invariant-loop-number
invariant-loop-number l = list_any (is_other_number l.one l.other) l.fn.numbers ≡ list_any (is_other_number l.one l.other) l.left

abbrev pub decreases-loop-number : goal.decreases-loop-number
decreases-loop-number l = length l.left
