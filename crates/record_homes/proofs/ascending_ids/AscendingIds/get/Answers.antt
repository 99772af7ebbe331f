use Rattle.std.proofs.Common.{refl}
use Rattle.record_homes.proofs.TouchedLaws.{none-above}
use Rattle.record_homes.proofs.ascending_ids.AscendingIds.get.Goals as goal

pub returns-then-is_above : goal.returns-then-is_above
returns-then-is_above c = none-above c.args.id.now c.args.self.now.entries (c.if-is_above.ensures.0 refl)
