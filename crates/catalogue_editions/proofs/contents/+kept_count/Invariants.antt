use Rattle.std.proofs.Common.{length}
use Rattle.catalogue_editions.proofs.contents.+kept_count.Given as goal

abbrev pub decreases-kept_count : goal.decreases-kept_count
decreases-kept_count l = length l.parts.now
