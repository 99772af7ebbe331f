use Rattle.union_base.proofs.SortedListLaws.{is_ascending-union}
use Rattle.union_base.proofs.sorted_list.SortedList.union.Goals as goal

pub invariant_of-result : goal.invariant_of-result
invariant_of-result g c =
    rw (c.shrink_to_fit.ensures.items, c.in_ok-items.ensures, c.as_slice.ensures.value) (is_ascending-union g.met.K.Ord.total c.args.self.now c.as_slice-2.result.now c.as_slice.ensures.ascending)
