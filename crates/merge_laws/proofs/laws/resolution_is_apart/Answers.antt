use Rattle.merge_laws.proofs.Resolutions.{apart-from_resolution}
use Rattle.merge_laws.proofs.laws.resolution_is_apart.Goals as goal

pub returns : goal.returns
returns g c = apart-from_resolution g.met.R.Join.join_laws g.met.R.Resolvable.match_laws
