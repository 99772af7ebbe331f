use Rattle.catalogue_export.proofs.EditionLaws.{edition-accepted}
use Rattle.catalogue_export.proofs.laws.edition_is_accepted.Goals as goal

pub returns : goal.returns
returns c = edition-accepted
