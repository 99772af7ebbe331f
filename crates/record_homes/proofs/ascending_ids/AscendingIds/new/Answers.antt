use Rattle.record_homes.proofs.TouchedLaws.{ordered-none}
use Rattle.record_homes.proofs.ascending_ids.AscendingIds.new.Goals as goal

pub invariant_of-result : goal.invariant_of-result
invariant_of-result c = ordered-none c.new.result.items c.new.ensures.items
