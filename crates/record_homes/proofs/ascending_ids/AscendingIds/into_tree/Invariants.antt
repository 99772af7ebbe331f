use Rattle.record_homes.proofs.TouchedLaws.{Grows}
use Rattle.record_homes.proofs.ascending_ids.AscendingIds.into_tree.Given as goal

-- the ids so far are in the tree
abbrev pub invariant-loop-id : goal.invariant-loop-id
invariant-loop-id l = Grows l.fn.self.entries l.tree.entries l.id-iterator.rest.items
