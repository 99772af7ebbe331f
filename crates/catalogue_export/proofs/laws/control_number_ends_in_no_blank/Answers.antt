use Rattle.catalogue_export.proofs.NumberShapeLaws.{numbers-unblanked}
use Rattle.catalogue_export.proofs.laws.control_number_ends_in_no_blank.Goals as goal

pub returns : goal.returns
returns c = numbers-unblanked
