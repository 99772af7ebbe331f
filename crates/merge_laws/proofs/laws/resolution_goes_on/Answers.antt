use Rattle.merge_laws.proofs.Resolutions.{IsResolution-push, IsResolution-append}
use Rattle.merge_laws.proofs.laws.resolution_goes_on.Goals as goal

pub returns-clause-with_one : goal.returns-clause-with_one
returns-clause-with_one g c = IsResolution-push g.met.R.Join.join_laws g.met.R.Resolvable.match_laws

pub returns-clause-with_list : goal.returns-clause-with_list
returns-clause-with_list g c = IsResolution-append g.met.R.Join.join_laws g.met.R.Resolvable.match_laws
