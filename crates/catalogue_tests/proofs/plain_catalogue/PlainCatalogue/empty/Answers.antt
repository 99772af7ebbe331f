use Rattle.std.proofs.Common.{refl}
use Rattle.catalogue_tests.proofs.PlainLaws.{nothing}
use Rattle.catalogue_tests.proofs.plain_catalogue.PlainCatalogue.empty.Goals as goal

pub invariant_of-result : goal.invariant_of-result
invariant_of-result c = rw (c.new.ensures.items, c.new-2.ensures.empty, c.new-3.ensures.items, c.empty.ensures) (refl, nothing, refl)
