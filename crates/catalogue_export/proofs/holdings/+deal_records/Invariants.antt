use Rattle.std.proofs.Common.{length}
use Rattle.catalogue_export.proofs.holdings.+deal_records.Given as goal

abbrev pub decreases-deal_records : goal.decreases-deal_records
decreases-deal_records l = length l.behind.now
