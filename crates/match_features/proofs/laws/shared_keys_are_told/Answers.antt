use Rattle.match_features.proofs.KeyLaws.{features_key_laws}
use Rattle.match_features.proofs.laws.shared_keys_are_told.Goals as goal

pub returns : goal.returns
returns c = features_key_laws.shared
