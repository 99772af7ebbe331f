use Rattle.union_base.proofs.SortedListLaws.{have_common-union}
use Rattle.union_base.proofs.laws.common_value_with_union.Goals as goal

pub returns : goal.returns
returns g c = have_common-union g.met.K.Ord.total
