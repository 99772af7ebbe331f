use Rattle.catalogue_export.proofs.EditionLaws.{edition-utf8}
use Rattle.catalogue_export.proofs.laws.edition_is_utf8.Goals as goal

pub returns : goal.returns
returns c = edition-utf8
