use Rattle.std.proofs.Common.{◌≡◌, map, take}
use Rattle.record_editions.specs.EditionKeys.{work_pairs}
use Rattle.catalogue_export.proofs.works_text.pairs_of.Given as goal

-- the pairs of the editions so far
abbrev pub invariant-loop-edition : goal.invariant-loop-edition
invariant-loop-edition l = l.pairs.items ≡ work_pairs l.names (map (λ e. e.now) (take l.edition-index l.editions))
