use Rattle.work_clusters.proofs.MemberLaws.{changed-members, changed-nothing}
use Rattle.work_clusters.proofs.laws.change_of_pairs.Goals as goal

pub returns-clause-changed : goal.returns-clause-changed
returns-clause-changed c = changed-members

pub returns-clause-first : goal.returns-clause-first
returns-clause-first c = changed-nothing
