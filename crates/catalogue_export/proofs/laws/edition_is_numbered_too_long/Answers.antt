use Rattle.catalogue_export.proofs.EditionLaws.{edition-numbered_too_long}
use Rattle.catalogue_export.proofs.laws.edition_is_numbered_too_long.Goals as goal

pub returns : goal.returns
returns c = edition-numbered_too_long
