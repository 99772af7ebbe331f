use Rattle.merge_tests.specs.SmallSets.{bit_or-positive}
use Rattle.merge_tests.proofs.small_sets.SmallSetJoin.joined.Goals as goal

pub invariant_of-result : goal.invariant_of-result
invariant_of-result c = bit_or-positive c.self.inside.mask c.other.inside.mask c.self.invariant
