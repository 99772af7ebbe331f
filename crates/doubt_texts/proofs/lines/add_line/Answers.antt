use Rattle.std.proofs.Common.{append_assoc}
use Rattle.doubt_texts.specs.Lines.{line_text}
use Rattle.doubt_texts.proofs.lines.add_line.Goals as goal

pub returns : goal.returns
unfolding line_text
returns c =
    rw (
      c.in_ok-extend_from_slice-4.ensures.items,
      c.in_ok-add_told_merge.ensures,
      c.in_ok-extend_from_slice-3.ensures.items,
      c.in_ok-add_names.ensures,
      c.in_ok-extend_from_slice-2.ensures.items,
      c.in_ok-add_size.ensures,
      c.in_ok-extend_from_slice.ensures.items,
      c.in_ok-add_least.ensures,
    )
    (simp append_assoc)
