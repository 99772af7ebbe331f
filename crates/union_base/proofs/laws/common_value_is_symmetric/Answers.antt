use Rattle.union_base.proofs.SortedListLaws.{have_common-symmetric}
use Rattle.union_base.proofs.laws.common_value_is_symmetric.Goals as goal

pub returns : goal.returns
returns g c = have_common-symmetric g.met.K.Ord.total
