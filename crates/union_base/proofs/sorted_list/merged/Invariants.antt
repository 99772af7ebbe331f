use Rattle.std.proofs.Common.{◌≡◌, ◌++◌, ◌+◌, IsTrue, length}
use Rattle.union_base.specs.SortedLists.{is_ascending, union}
use Rattle.union_base.proofs.sorted_list.merged.Given as goal

-- what was pushed, and the union of what is left
abbrev pub invariant-loop-x : goal.invariant-loop-x
invariant-loop-x g l = record {
  left : IsTrue (is_ascending g.K.Ord.cmp l.left);
  right : IsTrue (is_ascending g.K.Ord.cmp l.right);
  all : l.items.items ++ union g.K.Ord.cmp l.left l.right ≡ union g.K.Ord.cmp l.fn.one l.fn.other;
}

abbrev pub decreases-loop-x : goal.decreases-loop-x
decreases-loop-x g l = length l.left + length l.right
