use Rattle.work_clusters.proofs.MemberLaws.{works_of-permutation, works_of-members}
use Rattle.work_clusters.proofs.laws.order_of_pairs.Goals as goal

pub returns-clause-permuted : goal.returns-clause-permuted
returns-clause-permuted c = works_of-permutation

pub returns-clause-members : goal.returns-clause-members
returns-clause-members c = works_of-members
