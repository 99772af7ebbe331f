use Rattle.catalogue_export.proofs.ExportedProof.{exported-whole}
use Rattle.catalogue_export.proofs.laws.exported_is_whole.Goals as goal

pub returns : goal.returns
returns c = exported-whole
