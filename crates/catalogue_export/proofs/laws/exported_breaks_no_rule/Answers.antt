use Rattle.catalogue_export.proofs.ExportedProof.{exported-unbroken}
use Rattle.catalogue_export.proofs.laws.exported_breaks_no_rule.Goals as goal

pub returns : goal.returns
returns c = exported-unbroken
