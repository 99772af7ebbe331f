use Rattle.match_features.proofs.PostedLaws.{features_seeking_laws}
use Rattle.match_features.proofs.laws.found_shares_a_key.Goals as goal

pub returns : goal.returns
returns c = features_seeking_laws.near
