use Rattle.std.proofs.Common.{◌≡◌, ◌+◌, IsTrue, length}
use Rattle.union_base.specs.SortedLists.{is_ascending}
use Rattle.match_features.specs.Posted.{has_each}
use Rattle.match_features.proofs.beside.has_each_of.Given as goal

-- what was passed has what was passed of the base, and none of what is left
abbrev pub invariant-loop-x : goal.invariant-loop-x
invariant-loop-x g l = record {
  left : IsTrue (is_ascending g.K.Ord.cmp l.left);
  right : IsTrue (is_ascending g.K.Ord.cmp l.right);
  same : has_each g.K.Ord.cmp l.left l.right ≡ has_each g.K.Ord.cmp l.fn.list l.fn.base;
}

abbrev pub decreases-loop-x : goal.decreases-loop-x
decreases-loop-x g l = length l.left + length l.right
