use Rattle.catalogue_core.proofs.Unranked.{same-unranked}
use Rattle.catalogue_core.proofs.laws.preferences_agree.Goals as goal

pub returns : goal.returns
returns c = same-unranked
