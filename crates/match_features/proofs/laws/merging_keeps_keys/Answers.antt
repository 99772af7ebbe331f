use Rattle.match_features.proofs.KeyLaws.{features_key_laws}
use Rattle.match_features.proofs.laws.merging_keeps_keys.Goals as goal

pub returns : goal.returns
returns c = features_key_laws.merged
