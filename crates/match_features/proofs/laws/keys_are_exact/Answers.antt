use Rattle.match_features.proofs.KeyLaws.{features_keys_exact}
use Rattle.match_features.proofs.laws.keys_are_exact.Goals as goal

pub returns : goal.returns
returns c = features_keys_exact
