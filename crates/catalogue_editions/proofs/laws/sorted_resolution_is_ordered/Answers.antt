use Rattle.catalogue_editions.proofs.Apart.{ordered-from_sorted}
use Rattle.catalogue_editions.proofs.laws.sorted_resolution_is_ordered.Goals as goal

pub returns : goal.returns
returns c = ordered-from_sorted
