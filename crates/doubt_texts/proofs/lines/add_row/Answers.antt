use Rattle.std.proofs.Common.{append_assoc}
use Rattle.doubt_texts.specs.Lines.{row_text}
use Rattle.doubt_texts.proofs.lines.add_row.Goals as goal

pub returns : goal.returns
unfolding row_text
returns c =
    rw (
      c.in_ok-extend_from_slice-4.ensures.items,
      c.in_ok-add_merge_cell.ensures,
      c.in_ok-extend_from_slice-3.ensures.items,
      c.in_ok-add_names_cell.ensures,
      c.in_ok-extend_from_slice-2.ensures.items,
      c.in_ok-add_size_number.ensures,
      c.in_ok-extend_from_slice.ensures.items,
      c.in_ok-add_id_cell.ensures,
    )
    (simp append_assoc)
