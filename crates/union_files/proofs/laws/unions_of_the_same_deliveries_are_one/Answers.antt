use Rattle.union_files.proofs.UnionLaws.{one-union}
use Rattle.union_files.proofs.laws.unions_of_the_same_deliveries_are_one.Goals as goal

pub returns : goal.returns
returns c = one-union
