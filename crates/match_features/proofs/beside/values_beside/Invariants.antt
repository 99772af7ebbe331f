use Rattle.std.proofs.Common.{◌≡◌, ◌++◌, ◌+◌, IsTrue, length}
use Rattle.union_base.specs.SortedLists.{is_ascending}
use Rattle.match_features.specs.KeyLists.{beside}
use Rattle.match_features.proofs.beside.values_beside.Given as goal

-- what was found, and what is left of the one beside what is left of the other
abbrev pub invariant-loop-x : goal.invariant-loop-x
invariant-loop-x g l = record {
  left : IsTrue (is_ascending g.K.Ord.cmp l.left);
  right : IsTrue (is_ascending g.K.Ord.cmp l.right);
  all : l.found.items ++ beside g.K.Ord.cmp l.left l.right ≡ beside g.K.Ord.cmp l.fn.list l.fn.base;
}

abbrev pub decreases-loop-x : goal.decreases-loop-x
decreases-loop-x g l = length l.left + length l.right
