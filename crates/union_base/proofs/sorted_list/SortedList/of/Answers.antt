use Rattle.std.proofs.Common.{◌∙◌}
use Rattle.std.proofs.lemmas.List.Filters.{dedup_is}
use Rattle.union_base.proofs.SortedListMaking.{ascending-dedup, set_of-from_sort}
use Rattle.union_base.proofs.sorted_list.SortedList.of.Goals as goal

pub invariant_of-result : goal.invariant_of-result
invariant_of-result g c =
    rw (c.shrink_to_fit.ensures.items ∙ dedup_is g.K.PartialEq.eq c.sort.new.self.items c.dedup.new.self.items c.dedup.ensures.filtered)
    (ascending-dedup g.met.K.Ord.total g.met.K.Ord.matches_eq c.sort.new.self.items c.in_ok-sort.ensures.sorted)

pub returns : goal.returns
returns g c =
    c.shrink_to_fit.ensures.items
    ∙ dedup_is g.K.PartialEq.eq c.sort.new.self.items c.dedup.new.self.items c.dedup.ensures.filtered
    ∙ set_of-from_sort g.met.K.Ord.total g.met.K.Element.ties g.met.K.Ord.matches_eq g.met.K.Eq.laws c.args.list.items c.sort.new.self.items
    c.in_ok-sort.ensures.permutation c.in_ok-sort.ensures.sorted
