use Rattle.union_base.proofs.SortedListLaws.{union-associative}
use Rattle.union_base.proofs.laws.union_is_associative.Goals as goal

pub returns : goal.returns
returns g c = union-associative g.met.K.Ord.total g.met.K.Element.ties
