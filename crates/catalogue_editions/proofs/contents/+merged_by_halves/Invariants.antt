use Rattle.std.proofs.Common.{length}
use Rattle.catalogue_editions.proofs.contents.+merged_by_halves.Given as goal

abbrev pub decreases-merged_by_halves : goal.decreases-merged_by_halves
decreases-merged_by_halves l = length l.behind.now
