use Rattle.std.proofs.Common.{sym, ◌∙◌, length}
use Rattle.std.proofs.lemmas.Bool.{eqb-true}
use Rattle.marc_fields.proofs.OrderLaws.{counted-order}
use Rattle.marc_fields.proofs.tiling.are_in_order.Goals as goal

pub returns-then-end_in_order : goal.returns-then-end_in_order
returns-then-end_in_order c = λ same.
    counted-order 0 c.args.bytes.now c.args.entries.now (sym c.if-end_in_order.ensures) (sym c.count_of.ensures ∙ eqb-true c.count_of.result (length c.args.entries.now) same)
