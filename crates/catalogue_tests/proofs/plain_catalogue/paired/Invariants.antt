use Rattle.std.proofs.Common.{◌≡◌, take}
use Rattle.std.specs.FinMap.{empty}
use Rattle.catalogue_core.specs.EditionKeys.{work_pairs}
use Rattle.catalogue_tests.proofs.plain_catalogue.paired.Given as goal

abbrev pub invariant-loop-edition : goal.invariant-loop-edition
invariant-loop-edition l = l.pairs.items ≡ work_pairs empty (take l.edition-index l.editions)
