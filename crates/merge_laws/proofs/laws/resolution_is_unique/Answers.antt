use Rattle.merge_laws.proofs.Resolutions.{IsPermutation-from_resolutions}
use Rattle.merge_laws.proofs.laws.resolution_is_unique.Goals as goal

pub returns : goal.returns
returns g c = IsPermutation-from_resolutions g.met.R.Join.join_laws g.met.R.Resolvable.match_laws
