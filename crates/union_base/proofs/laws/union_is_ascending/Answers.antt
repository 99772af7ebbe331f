use Rattle.union_base.proofs.SortedListLaws.{is_ascending-union}
use Rattle.union_base.proofs.laws.union_is_ascending.Goals as goal

pub returns : goal.returns
returns g c = is_ascending-union g.met.K.Ord.total
