use Rattle.std.proofs.Common.{rules}
use Rattle.field_merge.specs.Orders.{fixed_cmp}
use Rattle.field_merge.specs.OrderLaws.{fixed_total, fixed_apart}
use Rattle.edition_blocks.proofs.SameLaws.{same-by}
use Rattle.edition_blocks.proofs.same.are_same_fixed.Goals as goal

pub returns : goal.returns
returns c = same-by fixed_cmp fixed_total fixed_apart c.args.one.now c.args.other.now c.is_eq.result (search rules)
