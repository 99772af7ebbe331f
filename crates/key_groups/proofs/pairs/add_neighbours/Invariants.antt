-- the pairs of the neighbours so far are added
use Rattle.key_groups.proofs.Pairing.{AreAddedTo}
use Rattle.key_groups.proofs.pairs.add_neighbours.Given as goal

abbrev pub invariant-loop-next : goal.invariant-loop-next
invariant-loop-next l = AreAddedTo l.sorted l.initial.pairs.items l.pairs.items l.next
