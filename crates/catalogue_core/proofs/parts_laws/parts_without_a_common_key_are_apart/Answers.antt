use Rattle.catalogue_core.proofs.DividedLaws.{parts_apart-from_keys}
use Rattle.catalogue_core.proofs.parts_laws.parts_without_a_common_key_are_apart.Goals as goal

pub returns : goal.returns
returns c = parts_apart-from_keys
