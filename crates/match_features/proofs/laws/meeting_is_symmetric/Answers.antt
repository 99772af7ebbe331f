use Rattle.match_features.proofs.MeetLaws.{features_match_laws}
use Rattle.match_features.proofs.laws.meeting_is_symmetric.Goals as goal

pub returns : goal.returns
returns c = features_match_laws.symmetric
