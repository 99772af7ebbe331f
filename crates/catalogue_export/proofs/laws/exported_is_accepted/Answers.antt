use Rattle.catalogue_export.proofs.ExportedProof.{exported-accepted}
use Rattle.catalogue_export.proofs.laws.exported_is_accepted.Goals as goal

pub returns : goal.returns
returns c = exported-accepted
