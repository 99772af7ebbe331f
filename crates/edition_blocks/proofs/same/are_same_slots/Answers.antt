use Rattle.std.specs.Option.{option_cmp}
use Rattle.std.proofs.Common.{rules}
use Rattle.field_merge.specs.Orders.{slot_cmp}
use Rattle.field_merge.specs.OrderLaws.{optional_slot_total, optional_slots_apart}
use Rattle.edition_blocks.proofs.SameLaws.{same-by}
use Rattle.edition_blocks.proofs.same.are_same_slots.Goals as goal

pub returns : goal.returns
returns c = same-by (option_cmp slot_cmp) optional_slot_total optional_slots_apart c.args.one.now c.args.other.now c.is_eq.result (search rules)
