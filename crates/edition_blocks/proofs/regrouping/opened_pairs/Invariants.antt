use Rattle.std.proofs.Common.{◌≡◌, take}
use Rattle.swoosh_resolver.specs.Tables.{values_of}
use Rattle.record_editions.specs.EditionKeys.{work_pairs}
use Rattle.edition_blocks.proofs.regrouping.opened_pairs.Given as goal

abbrev pub invariant-loop-placed : goal.invariant-loop-placed
invariant-loop-placed l = l.pairs.items ≡ work_pairs l.names (values_of (take l.placed-index l.opened))
