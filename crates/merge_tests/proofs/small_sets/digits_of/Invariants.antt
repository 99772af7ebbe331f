-- the places so far are those of the digits 1 below the one at hand
use Rattle.merge_tests.proofs.Digits.{HasPlaces}
use Rattle.merge_tests.proofs.small_sets.digits_of.Given as goal

abbrev pub invariant-loop-k : goal.invariant-loop-k
invariant-loop-k l = HasPlaces l.mask l.k l.keys.items
