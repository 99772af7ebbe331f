use Rattle.merge_laws.proofs.Resolutions.{dominated-from_match}
use Rattle.merge_laws.proofs.laws.dominated_is_matching.Goals as goal

pub returns : goal.returns
returns g c list resolution resolved w x in_list in_resolution =
    (λ d. d.matches, dominated-from_match g.met.R.Join.join_laws g.met.R.Resolvable.match_laws list resolution resolved w x in_list in_resolution)
