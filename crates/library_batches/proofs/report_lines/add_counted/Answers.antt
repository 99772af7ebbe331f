use Rattle.std.proofs.Common.{append_assoc}
use Rattle.library_batches.specs.Reports.{counted}
use Rattle.library_batches.proofs.report_lines.add_counted.Goals as goal

pub returns : goal.returns
unfolding counted
returns c =
    rw (
      c.in_ok-extend_from_slice-2.ensures.items,
      c.as_bytes.ensures.value,
      c.format.ensures.text,
      c.in_ok-push-2.ensures.items,
      c.in_ok-extend_from_slice.ensures.items,
      c.in_ok-push.ensures.items,
    )
    (simp append_assoc)
