use Rattle.std.proofs.Common.{◌≡◌, ◌+◌, IsTrue, length}
use Rattle.union_base.specs.SortedLists.{is_ascending, have_common}
use Rattle.union_base.proofs.sorted_list.have_common_value.Given as goal

-- what was passed is in one list alone
abbrev pub invariant-loop-x : goal.invariant-loop-x
invariant-loop-x g l = record {
  left : IsTrue (is_ascending g.K.Ord.cmp l.left);
  right : IsTrue (is_ascending g.K.Ord.cmp l.right);
  same : have_common g.K.Ord.cmp l.left l.right ≡ have_common g.K.Ord.cmp l.fn.one l.fn.other;
}

abbrev pub decreases-loop-x : goal.decreases-loop-x
decreases-loop-x g l = length l.left + length l.right
