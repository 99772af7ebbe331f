use Rattle.work_clusters.proofs.MemberLaws.{members-ids_under, ascending-ids_under, ascending-keys_of}
use Rattle.work_clusters.proofs.laws.reading_of_pairs.Goals as goal

pub returns-clause-ids : goal.returns-clause-ids
returns-clause-ids c = members-ids_under

pub returns-clause-ordered : goal.returns-clause-ordered
returns-clause-ordered c = ascending-ids_under

pub returns-clause-keys : goal.returns-clause-keys
returns-clause-keys c = ascending-keys_of
