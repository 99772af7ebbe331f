use Rattle.record_homes.proofs.TouchedLaws.{ordered-none}
use Rattle.record_homes.proofs.ascending_ids.AscendingIds.with_capacity.Goals as goal

pub invariant_of-result : goal.invariant_of-result
invariant_of-result c = ordered-none c.in_ok-with_capacity.field-0.items c.in_ok-with_capacity.ensures.items
