use Rattle.match_features.proofs.KeyLaws.{features_key_laws}
use Rattle.match_features.proofs.laws.meeting_shares_a_key.Goals as goal

pub returns : goal.returns
returns c = features_key_laws.matching
