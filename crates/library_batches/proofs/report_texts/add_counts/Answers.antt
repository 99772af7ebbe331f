use Rattle.std.proofs.Common.{append_assoc}
use Rattle.library_batches.specs.Reports.{report_line}
use Rattle.library_batches.proofs.report_texts.add_counts.Goals as goal

pub returns : goal.returns
unfolding report_line
returns c =
    rw (
      c.in_ok-push.ensures.items,
      c.in_ok-add_counted-6.ensures,
      c.in_ok-add_counted-5.ensures,
      c.in_ok-add_counted-4.ensures,
      c.in_ok-add_counted-3.ensures,
      c.in_ok-add_counted-2.ensures,
      c.in_ok-add_counted.ensures,
      c.in_ok-extend_from_slice.ensures.items,
    )
    (simp append_assoc)
