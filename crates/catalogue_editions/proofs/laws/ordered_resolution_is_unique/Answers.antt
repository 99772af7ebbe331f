use Rattle.catalogue_editions.proofs.Apart.{one-ordered}
use Rattle.catalogue_editions.proofs.laws.ordered_resolution_is_unique.Goals as goal

pub returns : goal.returns
returns c = one-ordered
