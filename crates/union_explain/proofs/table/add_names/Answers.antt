use Rattle.std.proofs.Common.{append_assoc}
use Rattle.union_explain.specs.Rows.{name_cells}
use Rattle.union_explain.proofs.table.add_names.Goals as goal

pub returns : goal.returns
unfolding name_cells
returns c =
    rw (c.in_ok-add_next-3.ensures, c.name.ensures, c.in_ok-add_next-2.ensures, c.tag_at.ensures, c.in_ok-add_next.ensures, c.control_number.ensures)
    (simp append_assoc)
