use Rattle.std.proofs.Common.{rules}
use Rattle.field_merge.specs.Orders.{slot_cmp}
use Rattle.field_merge.specs.OrderLaws.{slot_total, slots_apart}
use Rattle.edition_blocks.proofs.SameLaws.{same-by}
use Rattle.edition_blocks.proofs.same.is_same_slot.Goals as goal

pub returns : goal.returns
returns c = same-by slot_cmp slot_total slots_apart c.args.one.now c.args.other.now c.is_eq.result (search rules)
