use Rattle.union_base.proofs.SortedListLaws.{have_common-itself}
use Rattle.union_base.proofs.laws.common_value_is_reflexive.Goals as goal

pub returns : goal.returns
returns g c = have_common-itself g.met.K.Ord.total
