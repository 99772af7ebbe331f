use Rattle.merge_laws.proofs.Resolutions.{IsResolution-permutation}
use Rattle.cluster_reopen.proofs.laws.resolution_in_any_order.Goals as goal

pub returns : goal.returns
returns g c list one other resolved same = IsResolution-permutation g.met.R.Join.join_laws g.met.R.Resolvable.match_laws list one other same resolved
