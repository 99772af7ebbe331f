use Rattle.match_features.proofs.PostedLaws.{told-from_posted, posted-from_told}
use Rattle.match_features.proofs.laws.posted_keys_are_told.Goals as goal

pub returns : goal.returns
returns c = λ x k. (told-from_posted x k, posted-from_told x k)
