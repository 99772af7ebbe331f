use Rattle.std.proofs.Common.{append_assoc}
use Rattle.union_explain.specs.Rows.{place_cells}
use Rattle.union_explain.proofs.table.add_place.Goals as goal

pub returns : goal.returns
unfolding place_cells
returns c =
    rw (c.in_ok-add_number-3.ensures, c.size.ensures, c.in_ok-add_number-2.ensures, c.first.ensures, c.in_ok-add_number.ensures, c.in_ok-add_cell.ensures)
    (simp append_assoc)
