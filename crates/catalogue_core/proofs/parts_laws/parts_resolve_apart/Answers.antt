use Rattle.catalogue_core.proofs.DividedLaws.{ordered-from_parts}
use Rattle.catalogue_core.proofs.parts_laws.parts_resolve_apart.Goals as goal

pub returns : goal.returns
returns c parts list all apart same = ordered-from_parts parts list apart same all
