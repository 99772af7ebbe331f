use Rattle.catalogue_core.proofs.Strangers.{stranger-comes, stranger-goes}
use Rattle.catalogue_core.proofs.laws.strangers_cost_one_test.Goals as goal

pub returns : goal.returns
returns c = record { comes = stranger-comes; goes = stranger-goes }
