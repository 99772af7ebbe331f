use Rattle.std.proofs.Common.{append_assoc}
use Rattle.library_batches.specs.Reports.{left_line}
use Rattle.library_batches.proofs.report_texts.add_left_line.Goals as goal

pub returns : goal.returns
unfolding left_line
returns c =
    rw (c.in_ok-push.ensures.items, c.in_ok-add_counted.ensures, c.bytes.ensures, c.in_ok-name.ensures, c.in_ok-extend_from_slice.ensures.items)
    (simp append_assoc)
