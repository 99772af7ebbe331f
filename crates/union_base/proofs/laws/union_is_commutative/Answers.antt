use Rattle.union_base.proofs.SortedListLaws.{union-commutative}
use Rattle.union_base.proofs.laws.union_is_commutative.Goals as goal

pub returns : goal.returns
returns g c = union-commutative g.met.K.Ord.total g.met.K.Element.ties
