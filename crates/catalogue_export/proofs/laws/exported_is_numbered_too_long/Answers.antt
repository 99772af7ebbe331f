use Rattle.catalogue_export.proofs.ExportedProof.{exported-numbered_too_long}
use Rattle.catalogue_export.proofs.laws.exported_is_numbered_too_long.Goals as goal

pub returns : goal.returns
returns c = exported-numbered_too_long
