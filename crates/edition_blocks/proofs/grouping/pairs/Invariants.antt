use Rattle.std.proofs.Common.{◌≡◌, map}
use Rattle.record_editions.specs.EditionKeys.{work_pairs}
use Rattle.edition_blocks.proofs.grouping.pairs.Given as goal

abbrev pub invariant-loop-edition : goal.invariant-loop-edition
invariant-loop-edition l = l.pairs.items ≡ work_pairs l.names (map (λ e. e.now) l.yielded)
