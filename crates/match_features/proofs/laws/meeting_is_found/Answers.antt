use Rattle.match_features.proofs.PostedLaws.{features_seeking_laws}
use Rattle.match_features.proofs.laws.meeting_is_found.Goals as goal

pub returns : goal.returns
returns c = features_seeking_laws.matching
