use Rattle.std.proofs.Common.{[]}
use Rattle.change_notices.proofs.FollowerLaws.{follows, none-held}
use Rattle.change_notices.proofs.laws.deltas_lead_to_the_last_list.Goals as goal

pub returns : goal.returns
returns c = λ lists steps all are. follows [] lists steps none-held all are
