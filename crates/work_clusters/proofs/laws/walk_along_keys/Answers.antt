use Rattle.work_clusters.proofs.MemberLaws.{key_after-none, key_after-some}
use Rattle.work_clusters.proofs.laws.walk_along_keys.Goals as goal

pub returns-clause-first : goal.returns-clause-first
returns-clause-first c = key_after-none

pub returns-clause-next : goal.returns-clause-next
returns-clause-next c = key_after-some
