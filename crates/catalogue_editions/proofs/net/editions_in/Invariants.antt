use Rattle.std.proofs.Common.{◌≡◌, ◌++◌}
use Rattle.std.specs.Map.{values_of}
use Rattle.catalogue_editions.proofs.net.editions_in.Given as goal

abbrev pub invariant-loop-edition : goal.invariant-loop-edition
invariant-loop-edition l = l.editions.items ++ l.edition-iterator ≡ values_of l.fn.left.entries
