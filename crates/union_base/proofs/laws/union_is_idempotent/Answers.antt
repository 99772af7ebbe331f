use Rattle.union_base.proofs.SortedListLaws.{union-idempotent}
use Rattle.union_base.proofs.laws.union_is_idempotent.Goals as goal

pub returns : goal.returns
returns g c = union-idempotent g.met.K.Ord.total g.met.K.Element.ties
