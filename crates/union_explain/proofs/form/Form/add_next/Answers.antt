use Rattle.std.proofs.Common.{append_assoc}
use Rattle.union_explain.specs.Rows.{next_cell}
use Rattle.union_explain.proofs.form.Form.add_next.Goals as goal

pub returns : goal.returns
unfolding next_cell
returns c = rw (c.in_ok-add_cell.ensures, c.in_ok-push.ensures.items, c.separator.ensures) (simp append_assoc)
