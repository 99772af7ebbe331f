use Rattle.union_files.proofs.UnionLaws.{same-records}
use Rattle.union_files.proofs.laws.unions_of_the_same_deliveries_have_the_same_records.Goals as goal

pub returns : goal.returns
returns c = same-records
