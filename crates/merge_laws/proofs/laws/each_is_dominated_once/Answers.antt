use Rattle.merge_laws.proofs.Resolutions.{once-from_resolution}
use Rattle.merge_laws.proofs.laws.each_is_dominated_once.Goals as goal

pub returns : goal.returns
returns g c = once-from_resolution g.met.R.Join.join_laws g.met.R.Resolvable.match_laws
