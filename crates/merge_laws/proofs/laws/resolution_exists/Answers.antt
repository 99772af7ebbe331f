use Rattle.merge_laws.proofs.Existing.{resolution-of}
use Rattle.merge_laws.proofs.laws.resolution_exists.Goals as goal

pub returns : goal.returns
returns g c = resolution-of g.met.R.Join.join_laws g.met.R.Resolvable.match_laws
