use Rattle.catalogue_core.proofs.DividedLaws.{unmatched-from_keys}
use Rattle.catalogue_core.proofs.parts_laws.strangers_do_not_match.Goals as goal

pub returns : goal.returns
returns c = unmatched-from_keys
