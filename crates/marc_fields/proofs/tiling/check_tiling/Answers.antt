use Rattle.std.proofs.Common.{◌∙◌, refl, ap, get_or, false}
use Rattle.marc_fields.proofs.TilingLaws.{replicate-unmarked, ordered-tiling}
use Rattle.marc_fields.proofs.tiling.check_tiling.Goals as goal

pub returns-then-are_in_order : goal.returns-then-are_in_order
returns-then-are_in_order c = (ordered-tiling c.args.bytes.now c.args.entries.now (c.if-are_in_order.ensures refl), tt)

pub check_marks-requires-clause-unmarked : goal.check_marks-requires-clause-unmarked
check_marks-requires-clause-unmarked c = λ at.
    ap (λ marks. get_or marks at false) (c.deref_mut.ensures.value ∙ c.in_ok-marks.ensures.items_if_clones_equal (λ y q. q))
    ∙ replicate-unmarked _ at
